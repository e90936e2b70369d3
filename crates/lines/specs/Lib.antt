pub mod Text
pub mod Laying
