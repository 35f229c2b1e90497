pub mod Oblivious
