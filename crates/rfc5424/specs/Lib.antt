pub mod Rfc5424
