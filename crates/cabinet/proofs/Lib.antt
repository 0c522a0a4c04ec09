-- Of sources: Sources. Of the frame: Shown. The theorem of specs/Claims.antt: Agreement.
pub mod Sources
pub mod Shown
pub mod Agreement
