-- The first two lines, and what is missing behind the last.
use Rattle.std.proofs.Common.{◌≡◌, ◌≢◌, ℕ, true, false, not, cond, List, [], ◌∷◌, ◌++◌, length, Option, Some, None, refl, sym, ap, ◌∙◌, arith}
use Rattle.std.specs.Prelude.{option_map, ◌==◌}
use Rattle.std.specs.List.{list_any, cons_option}
use Rattle.std.proofs.lemmas.Bool.{eqb-true}
use Rattle.wpds_port.specs.declared.Kind.TheVariants.{NothingAsked}
use Rattle.wpds_port.specs.declared.Refusal.{Refusal}
use Rattle.wpds_port.specs.Refusals.{refusal}
use Rattle.document_forms.specs.declared.weight.WeightsLine.{WeightsLine}
use Rattle.document_forms.specs.Lines.{Line}
use Rattle.document_forms.specs.Forms.{LineForm, OfWeights, OfNames, OfRule, OfQuery}
use Rattle.document_forms.specs.Above.{above_of, is_query}
use Rattle.document_forms.specs.FirstRefusal.{Counted, counted, forms, missing, first_refused}
use Rattle.document_forms.specs.Documents.{rules_on, queries_on, gathered, body}
use Rattle.document_reader.specs.declared.reading.Reading.{Reading}
use Rattle.document_reader.specs.private.Readings.{header_kind_on, weights_kind_on, SaysWeights, above_now, only_weights, HasRead}
use Rattle.document_reader.specs.private.Found.{found_first}
use Rattle.document_reader.proofs.ReadingLemmas.{found_none}

-- ---- the first two lines

-- a reading of the first two lines
pub two_read :
    (all : ℕ) (h w : Line) (weights : WeightsLine) (r : Reading)
    → header_kind_on h.bytes ≡ None → weights_kind_on w.bytes ≡ None → SaysWeights w.bytes weights
    → above_now r ≡ only_weights weights → r.rules.items ≡ [] → r.queries.items ≡ []
    → HasRead all (counted h ∷ counted w ∷ []) r
two_read all h w weights r first second s a no_rules no_queries =
    let forms_are : forms (counted w ∷ []) ≡ OfWeights s.0 ∷ [] = ap (λ o. cons_option o []) s.1 in
    record {
      begun = (s.0, [], forms_are);
      accepted = found_none all (counted h ∷ []) (counted w) (found_none all [] (counted h) refl first) second;
      above = a ∙ ap only_weights s.2 ∙ ap above_of (sym forms_are);
      rules = no_rules ∙ ap (gathered rules_on []) (sym forms_are);
      queries = no_queries ∙ ap (gathered queries_on []) (sym forms_are);
    }

-- ---- what is missing

none_asked : (pre fs : List LineForm) → gathered queries_on pre fs ≡ [] → list_any is_query fs ≡ false
none_asked pre [] h = refl
none_asked pre (OfWeights w ∷ fs) h = none_asked (pre ++ OfWeights w ∷ []) fs h
none_asked pre (OfNames c xs ∷ fs) h = none_asked (pre ++ OfNames c xs ∷ []) fs h
none_asked pre (OfRule r ∷ fs) h = none_asked (pre ++ OfRule r ∷ []) fs h
none_asked pre (OfQuery p q ∷ fs) h = cc

some_asked : (pre fs : List LineForm) → gathered queries_on pre fs ≢ [] → list_any is_query fs ≡ true
some_asked pre [] h = absurd (h refl)
some_asked pre (OfWeights w ∷ fs) h = some_asked (pre ++ OfWeights w ∷ []) fs h
some_asked pre (OfNames c xs ∷ fs) h = some_asked (pre ++ OfNames c xs ∷ []) fs h
some_asked pre (OfRule r ∷ fs) h = some_asked (pre ++ OfRule r ∷ []) fs h
some_asked pre (OfQuery p q ∷ fs) h = refl

query_missing : (ls : List Counted) (w : LineForm) (fs : List LineForm) → body ls ≡ w ∷ fs → gathered queries_on [] (body ls) ≡ [] → missing ls ≡ Some NothingAsked
query_missing [] w fs b h = cc
query_missing (x ∷ ls) w fs b h = ap (λ t. cond (not t) (Some NothingAsked) None) (none_asked [] (forms ls) h)

none_missing : (ls : List Counted) (w : LineForm) (fs : List LineForm) → body ls ≡ w ∷ fs → gathered queries_on [] (body ls) ≢ [] → missing ls ≡ None
none_missing [] w fs b h = cc
none_missing (x ∷ ls) w fs b h = ap (λ t. cond (not t) (Some NothingAsked) None) (some_asked [] (forms ls) h)

-- what is found where a line is refused, and where none is
pub found_in_line : (all after : ℕ) (ls : List Counted) (r : Refusal) → first_refused all [] ls ≡ Some r → found_first all after ls ≡ Some r
found_in_line all after ls r e =
    ap (λ o. elim o as (λ _. Option Refusal) [ Some q ↦ Some q | None ↦ option_map (refusal after) (missing ls) ]) e

pub found_at_end : (all after : ℕ) (ls : List Counted) → first_refused all [] ls ≡ None → found_first all after ls ≡ option_map (refusal after) (missing ls)
found_at_end all after ls e =
    ap (λ o. elim o as (λ _. Option Refusal) [ Some q ↦ Some q | None ↦ option_map (refusal after) (missing ls) ]) e

-- a reading that asks something misses nothing
pub whole_read : (all : ℕ) (ls : List Counted) (r : Reading) → HasRead all ls r → r.queries.items ≢ [] → missing ls ≡ None
whole_read all ls r h n = none_missing ls (OfWeights h.begun.0) h.begun.1 h.begun.2 (λ e. n (h.queries ∙ e))

-- one that asks nothing is refused on the line after the last
pub nothing_asked : (all after : ℕ) (ls : List Counted) (r : Reading) → HasRead all ls r → r.queries.items ≡ [] → found_first all after ls ≡ Some (refusal after NothingAsked)
nothing_asked all after ls r h e =
    found_at_end all after ls h.accepted
    ∙ ap (option_map (refusal after)) (query_missing ls (OfWeights h.begun.0) h.begun.1 h.begun.2 (sym h.queries ∙ e))

-- ---- a list, by the test of a count of its items
pub no_items : {A : Type 0} (xs : List A) (n : ℕ) → n ≡ length xs → (n == 0) ≡ true → xs ≡ []
no_items [] n e h = refl
no_items (x ∷ xs) n e h = let z = eqb-true n 0 h in absurd (omega arith)

pub some_items : {A : Type 0} (xs : List A) (n : ℕ) → n ≡ length xs → (n == 0) ≡ false → xs ≢ []
some_items [] n e h s = differ (sym (ap (λ k. k == 0) e) ∙ h)
  where
    differ : true ≡ false → ⊥
    differ d = cc
some_items (x ∷ xs) n e h s = cc
