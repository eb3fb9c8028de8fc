mod Characters
mod Lemmas
mod Listed
mod Numerals
