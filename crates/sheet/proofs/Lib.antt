-- Laws of the events that are put on a sheet: one of them, and all: Packing.
pub mod Packing
