mod SpanLemmas
mod OneLemmas
mod NoRuleLemmas
mod ListedLemmas
mod ReadLemmas
