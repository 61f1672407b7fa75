-- What the lines of a program declare, all together.
use Rattle.std.specs.Prelude.{ℕ, Bool, true, false, max, List, [], ◌∷◌, Option, Some, None, flat_map, find, bytes_eq}
use Rattle.document_forms.specs.Names.{once}
use Rattle.program_forms.specs.Forms.{StatementForm, AssertForm, LineForm, GlobalForm, ProcForm, Stating}
use Rattle.program_forms.specs.Places.{Stated}

-- ---- globals

abbrev pub globals_on : LineForm → List (List ℕ)
globals_on (GlobalForm xs) = xs
globals_on _ = []

-- each once, in order
abbrev pub globals : List Stated → List (List ℕ)
globals ls = once (flat_map (λ l. globals_on l.form) ls)

-- ---- procedures, by the `proc` lines

pub record ProcHead : Type 0 where
  pub name : List ℕ
  pub params : List (List ℕ)
  pub returns : ℕ
  -- its place among the procedures
  pub place : ℕ

abbrev pub procs_on : ℕ → LineForm → List ProcHead
procs_on k (ProcForm f ps n) = record { name = f; params = ps; returns = n; place = k } ∷ []
procs_on k _ = []

abbrev pub procs : List Stated → List ProcHead
procs ls = flat_map (λ l. procs_on l.place.begun l.form) ls

-- the first procedure of the name
abbrev pub proc_named : List ProcHead → List ℕ → Option ProcHead
proc_named ps f = find (λ p. bytes_eq f p.name) ps

abbrev pub most_returns : List ProcHead → ℕ
most_returns [] = 0
most_returns (p ∷ ps) = max p.returns (most_returns ps)

-- ---- labels

pub record LabelLine : Type 0 where
  pub name : List ℕ
  pub line : ℕ
  -- how many procedures have begun above its line: its own is the last of them
  pub begun : ℕ
  pub asserts : Bool

abbrev pub is_assert : StatementForm → Bool
is_assert (AssertForm e) = true
is_assert s = false

abbrev pub label_by : Stated → Option (List ℕ) → StatementForm → List LabelLine
label_by l None s = []
label_by l (Some x) s =
    record { name = x; line = l.number; begun = l.place.begun; asserts = is_assert s } ∷ []

abbrev pub labels_on : Stated → LineForm → List LabelLine
labels_on l (Stating x s) = label_by l x s
labels_on l _ = []

abbrev pub labels : List Stated → List LabelLine
labels ls = flat_map (λ l. labels_on l l.form) ls

-- the first label of the name
abbrev pub label_named : List LabelLine → List ℕ → Option LabelLine
label_named ls x = find (λ l. bytes_eq x l.name) ls

-- ---- all of it

pub record Whole : Type 0 where
  pub globals : List (List ℕ)
  pub procs : List ProcHead
  pub labels : List LabelLine
  -- the greatest `returns`
  pub slots : ℕ

abbrev pub whole : List Stated → Whole
whole ls = record {
  globals = globals ls;
  procs = procs ls;
  labels = labels ls;
  slots = most_returns (procs ls);
}
