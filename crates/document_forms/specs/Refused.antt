-- Which of the lines of a text is refused first, and by which kind: whatever a line is, and
-- whichever kinds it has.
use Rattle.std.specs.Prelude.{◌≡◌, ◌⊎◌, IsTrue, IsFalse, ℕ, ◌+◌, ◌≤◌, Bool, true, false, not, nat_lt, List, [], ◌∷◌, ◌++◌, length, Option, Some, None, option_map}
use Rattle.wpds_base.specs.Faults.{first_fault}
use Rattle.wpds_base.specs.Limits.{most_bytes}
use Rattle.wpds_base.specs.Lists.{IsIn}
use Rattle.wpds_port.specs.declared.Kind.{Kind}
use Rattle.wpds_port.specs.declared.Kind.TheVariants.{TooLong}
use Rattle.wpds_port.specs.declared.Refusal.{Refusal}
use Rattle.wpds_port.specs.Refusals.{kind_number, refusal}
use Rattle.document_forms.specs.Lines.{lines}
use Rattle.document_forms.specs.Kinds.{Conditions}

-- ---- kinds

-- A condition of this kind holds.
abbrev pub HasKind : Conditions → Kind → Type 0
HasKind cs k = IsIn (true, k) cs

-- It is the lowest of the kinds whose conditions hold.
pub record IsLowest (cs : Conditions) (k : Kind) : Type 0 where
  pub has : HasKind cs k
  pub lowest : (j : Kind) → HasKind cs j → kind_number k ≤ kind_number j

-- ---- formats

-- By which kinds a format refuses the lines that count: those of a line below the lines above it,
-- and those of the line after the last, for what is missing behind these lines.
pub record Format (Line : Type 0) : Type 0 where
  pub number : Line → ℕ
  pub conditions : (above : List Line) → Line → Conditions
  pub missing : List Line → Conditions

abbrev pub is_short : List ℕ → Bool
is_short bytes = not (nat_lt most_bytes (length bytes))

-- ---- the first refusal

module _ {Line : Type 0} (format : Format Line) where
  -- No line has a kind below those above it.
  abbrev pub AreAccepted : List Line → Type 0
  AreAccepted ls =
      (above : List Line) (l : Line) (below : List Line) → ls ≡ above ++ l ∷ below
      → (k : Kind) → HasKind (format.conditions above l) k → ⊥

  -- Of these lines the first that has a kind is refused, with the lowest.
  pub record IsRefusedLine (ls : List Line) (r : Refusal) : Type 0 where
    pub above : List Line
    pub line : Line
    pub below : List Line
    pub split : ls ≡ above ++ line ∷ below
    pub accepted : AreAccepted above
    pub kind : IsLowest (format.conditions above line) r.kind
    pub number : r.line ≡ format.number line

  -- All lines are accepted, and something is missing on the line after the last: the lowest of the
  -- kinds that it has.
  pub record IsRefusedEnd (after : ℕ) (ls : List Line) (r : Refusal) : Type 0 where
    pub accepted : AreAccepted ls
    pub kind : IsLowest (format.missing ls) r.kind
    pub number : r.line ≡ after

  -- The first refusal of bytes, of whose lines these count.
  abbrev pub FirstRefusal : List ℕ → List Line → Refusal → Type 0
  FirstRefusal bytes ls r =
      (IsFalse (is_short bytes) × (r ≡ refusal 0 TooLong))
      ⊎ (IsTrue (is_short bytes)
      × (IsRefusedLine ls r ⊎ IsRefusedEnd (length (lines bytes) + 1) ls r))

  -- ---- found line by line

  -- the first of the lines that has a kind, below those above and one another
  abbrev pub first_refused : (above ls : List Line) → Option Refusal
  first_refused above [] = None
  first_refused above (l ∷ ls) = elim (first_fault (format.conditions above l)) [
    | Some k ↦ Some (refusal (format.number l) k)
    | None ↦ first_refused (above ++ l ∷ []) ls
  ]

  -- or what is missing on the line after the last, which has this number
  abbrev pub refusal_in : (after : ℕ) → List Line → Option Refusal
  refusal_in after ls = elim (first_refused [] ls) [
    | Some r ↦ Some r
    | None ↦ option_map (refusal after) (first_fault (format.missing ls))
  ]

  abbrev pub refusal_of : List ℕ → List Line → Option Refusal
  refusal_of bytes ls = elim (is_short bytes) [
    | false ↦ Some (refusal 0 TooLong)
    | true ↦ refusal_in (length (lines bytes) + 1) ls
  ]
