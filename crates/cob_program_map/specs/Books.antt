-- The copybooks of a conversion, with their condition-names.
use Rattle.cob_copybook_conditions.specs.Names.{AreConditionNamesOf, plain_condition_names}
use Rattle.cob_program_map.specs.declared.books.NamedBook.{NamedBook}
use Rattle.cob_program_map.specs.declared.books.NamedBooks.{NamedBooks}

-- the condition-names of a copybook are those of its text
abbrev pub HasItsNames : NamedBook → Type 0
HasItsNames book = AreConditionNamesOf book.text.now (plain_condition_names book.names.now)

-- the same of both copybooks
abbrev pub HaveTheirNames : NamedBooks → Type 0
HaveTheirNames books = HasItsNames books.input × HasItsNames books.output
