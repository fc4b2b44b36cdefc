pub mod CaptureFaults
pub mod DescriptorFaults
