pub mod PrescriptionWrite
pub mod PrescriptionRead
pub mod Laws
