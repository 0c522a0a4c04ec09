-- Program `sheet`: the events of program `station` as those of a sheet, and what writing them promises.
pub mod Recorded
