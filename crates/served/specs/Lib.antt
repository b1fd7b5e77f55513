pub mod Serving
pub mod Numbers
pub mod Crossing
pub mod Errors
pub mod Doors
pub mod Failures
