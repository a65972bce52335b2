-- The calls on a ledger that a list in a file comes to, for the laws that tie what is printed to what is promised of every list of calls.
use Rattle.std.specs.Prelude.{List, [], ◌∷◌, ◌++◌, Result, Ok, Err}
use Rattle.calendar.specs.declared.Date.{Date}
use Rattle.response.specs.Answers.{file_answer}
use Rattle.response.specs.declared.Day.{Day}
use Rattle.response.specs.declared.DayRefusal.{DayRefusal}
use Rattle.ledger.specs.Calls.{Call, enter, reinstate}
use Rattle.ledger_script.specs.Items.{Item, unreadable, days, reinstates}

-- a day that its own assessment refuses is no call on the ledger
abbrev pub file_calls : Date → Result Day DayRefusal → List Call
file_calls date (Err refusal) = []
file_calls date (Ok day) = enter date day ∷ []

abbrev pub item_calls : Item → List Call
item_calls unreadable = []
item_calls (days date file) = file_calls date (file_answer file)
item_calls reinstates = reinstate ∷ []

abbrev pub calls_of : List Item → List Call
calls_of [] = []
calls_of (item ∷ items) = item_calls item ++ calls_of items
