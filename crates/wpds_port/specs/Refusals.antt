-- The kinds of refusals, and how a refusal is printed.
use Rattle.std.specs.Prelude.{ℕ, List, ◌++◌, codes}
use Rattle.std.specs.Fmt.{decimal}
use Rattle.wpds_port.specs.declared.refusal.Kind.{Kind}
use Rattle.wpds_port.specs.declared.refusal.Kind.TheVariants.{TooLong, NotText, Header, Form, Twice, Unknown, WeightText, Return, Count, NothingAsked, Arity, TooWide, Label}
use Rattle.wpds_port.specs.declared.refusal.Refusal.{Refusal}

-- the order in which the kinds of one line count, and the numbers under which they are printed
abbrev pub kind_number : Kind → ℕ
kind_number TooLong = 1
kind_number NotText = 2
kind_number Header = 3
kind_number Form = 4
kind_number Twice = 5
kind_number Unknown = 6
kind_number WeightText = 7
kind_number Return = 8
kind_number Count = 9
kind_number NothingAsked = 10
kind_number Arity = 11
kind_number TooWide = 12
kind_number Label = 13

abbrev pub kind_name : Kind → List ℕ
kind_name TooLong = codes "TooLong"
kind_name NotText = codes "NotText"
kind_name Header = codes "Header"
kind_name Form = codes "Form"
kind_name Twice = codes "Twice"
kind_name Unknown = codes "Unknown"
kind_name WeightText = codes "WeightText"
kind_name Return = codes "Return"
kind_name Count = codes "Count"
kind_name NothingAsked = codes "NothingAsked"
kind_name Arity = codes "Arity"
kind_name TooWide = codes "TooWide"
kind_name Label = codes "Label"

abbrev pub refusal : ℕ → Kind → Refusal
refusal n k = record { line = n; kind = k }

-- `refused: line L: K NAME`
abbrev pub refusal_text : Refusal → List ℕ
refusal_text r = codes "refused: line " ++ decimal r.line ++ codes ": " ++ decimal (kind_number r.kind) ++ codes " " ++ kind_name r.kind
