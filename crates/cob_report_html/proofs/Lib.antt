mod EscapeLemmas
mod GroupLemmas
mod TopLemmas
