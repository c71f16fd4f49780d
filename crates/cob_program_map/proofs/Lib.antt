mod Numbering
mod EndLemmas
