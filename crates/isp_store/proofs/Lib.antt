mod RowLists
mod Own
mod Picked
mod Apart
mod PlacesInOrder
mod Runs
