mod Cuts
mod Ids
mod Items
mod Lasts
mod Libraries
mod Texts
