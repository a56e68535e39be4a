mod Pieces
mod Among
mod Best
