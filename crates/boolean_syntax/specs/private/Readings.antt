-- What a reading has of the lines that were read.
use Rattle.std.specs.Prelude.{◌≡◌, ◌≤◌, ◌+◌, ◌||◌, ◌==◌, nat_lt, ℕ, Bool, List, [], ◌∷◌, ◌++◌, length, flat_map, Option, None, Some, IfNone, is_none, codes, Ok}
use Rattle.wpds_base.specs.Faults.{first_fault}
use Rattle.wpds_base.specs.Limits.{most_symbols, most_rules}
use Rattle.wpds_port.specs.declared.Kind.{Kind}
use Rattle.wpds_port.specs.declared.Kind.TheVariants.{Form, Unknown, Count, NothingAsked}
use Rattle.wpds_port.specs.Refusals.{refusal}
use Rattle.document_forms.specs.Lines.{Line}
use Rattle.document_forms.specs.Names.{is_among}
use Rattle.boolean_programs.specs.declared.program.Program.{Program}
use Rattle.boolean_programs.specs.declared.statement.Statement.{Statement}
use Rattle.program_forms.specs.Places.{Place, said, Stated, Judged, judged, next_place}
use Rattle.program_forms.specs.Declared.{globals, proc_named, Whole}
use Rattle.program_forms.specs.Above.{own_names, own_returns, proc_names, label_names, points_on, rules_on, total, begun, closed}
use Rattle.program_forms.specs.FirstRefusal.{kind_below, first_refused}
use Rattle.program_forms.specs.Kinds.{has_known}
use Rattle.program_forms.specs.Programs.{body_line, with_body, on_last, procs_in, asked_on}
use Rattle.boolean_syntax.specs.declared.reading.Reading.{Reading}

-- the names are these, in whatever order
abbrev pub HasSame : (seen names : List (List ℕ)) → Type 0
HasSame seen names = (x : List ℕ) → is_among seen x ≡ is_among names x

-- The reading has what these lines say, where all lines declare this together.
pub record HasRead (w : Whole) (above : List Stated) (r : Reading) : Type 0 where
  pub globals_above : r.globals ≡ globals above
  pub procs_above : HasSame r.seen_procs (proc_names above)
  pub labels_above : HasSame r.seen_labels (label_names above)
  pub names : r.scope.names ≡ w.globals ++ own_names above
  pub returns : r.scope.returns ≡ own_returns above
  pub points : r.points ≡ total points_on above
  pub rules : r.rules ≡ total rules_on above
  pub few_points : r.points ≤ most_symbols
  pub few_rules : r.rules ≤ most_rules
  pub closed_above : r.closed ≡ closed above
  pub procs : r.procs ≡ procs_in w above
  pub queries : r.queries.items ≡ flat_map (λ l. asked_on w l.form) above

-- Names were added to those that stand above, and one of them stood there or none did.
pub record HasSeen (old new more : List (List ℕ)) (stood : Bool) : Type 0 where
  pub again : stood ≡ has_known old more
  pub names : HasSame new (old ++ more)

-- so many body lines and asserts, and rules, are too many
abbrev pub passes : (points rules : ℕ) → Bool
passes points rules = nat_lt most_symbols points || nat_lt most_rules rules

-- A line with this statement is one too many, or else it was added to the last procedure.
pub record IsTakenIn
    (old new : Reading) (n : ℕ) (s : Statement) (k : Option Kind) : Type 0 where
  pub kind : k ≡ first_fault ((passes (old.points + 1) (old.rules + 1), Count) ∷ [])
  pub taken : IfNone k (new ≡ record old {
    points = old.points + 1;
    rules = old.rules + 1;
    procs = on_last (with_body (body_line n None s)) old.procs;
  })

-- A line is refused by its kind below the reading, or else it is taken.
pub record IsAnswered
    (w : Whole) (above : List Stated) (l : Stated) (new : Reading) (k : Option Kind) : Type 0 where
  pub kind : k ≡ kind_below w above l
  pub taken : IfNone k (HasRead w (above ++ l ∷ []) new)

-- A line was judged at a place, it is not refused, and it was taken.
pub record HasGone (w : Whole) (above : List Stated) (from to : Place)
    (l : Line) (r : Reading) : Type 0 where
  pub line : Stated
  pub judged : judged from (said l) ≡ Ok line
  pub kind : kind_below w above line ≡ None
  pub place : to ≡ next_place from line.form
  pub read : HasRead w (above ++ line ∷ []) r

-- A line is refused by this kind, whatever stands below it.
abbrev pub IsRefusedBy : Whole → List Stated → Place → Line → Kind → Type 0
IsRefusedBy w above p l k =
    (js : List Judged)
    → first_refused w above (judged p (said l) ∷ js) ≡ Some (refusal l.number k)

abbrev pub IsGone :
    Whole → List Stated → (from to : Place) → Line → Reading → Option Kind → Type 0
IsGone w above from to l r None = HasGone w above from to l r
IsGone w above from to l r (Some k) = IsRefusedBy w above from l k

-- the kind of what is missing behind the last line, where so many procedures have begun
abbrev pub end_kind_of : Whole → ℕ → Reading → Option Kind
end_kind_of w begun r =
    first_fault
    ((nat_lt r.closed begun, Form)
    ∷ (is_none (proc_named w.procs (codes "main")), Unknown)
    ∷ (length r.queries.items == 0, NothingAsked)
    ∷ [])

-- the program of what was read
abbrev pub program_now : List (List ℕ) → Reading → Program
program_now names r = record { globals = names; procs = r.procs; queries = r.queries.items }
