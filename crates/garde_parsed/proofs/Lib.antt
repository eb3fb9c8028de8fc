mod Options
mod AddressLaws
mod InMemory
mod Parts
mod MomentLaws
mod Colons
mod Layouts
