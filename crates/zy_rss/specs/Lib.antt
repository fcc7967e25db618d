pub mod Toeplitz
