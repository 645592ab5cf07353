mod Coming
mod Playing
