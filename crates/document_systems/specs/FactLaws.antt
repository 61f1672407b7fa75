-- The texts of values over facts tell the values.
use Rattle.std.proofs.Common.{arith, inl, inr, sym, ap, ◌∙◌}
use Rattle.std.specs.Prelude.{◌≡◌, ◌≢◌, ◌↔◌, ℕ, ◌*◌, ◌<◌, ◌≤◌, Bool, true, false, nat_eq, All, List, [], ◌∷◌, ◌++◌, drop, length, codes, refl}
use Rattle.std.proofs.lemmas.Bool.{cases_lt}
use Rattle.std.proofs.lemmas.List.Elements.{All-nil, All-cons, All-append, All-weaker}
use Rattle.wpds_base.specs.Lists.{IsOnce}
use Rattle.wpds_port.specs.Tokens.{is_name_text}
use Rattle.semiring_laws.specs.Semiring.{Fits, FitsMap}
use Rattle.genkill_weights.specs.declared.weight.GenKillW.{GenKillW}
use Rattle.genkill_weights.specs.declared.weight.GenKillW.TheVariants.{Zero as NoRun, Map}
use Rattle.genkill_weights.specs.Effects.{generates, kills}
use Rattle.genkill_weights.specs.GenKill.{genkill_operations}
use Rattle.genkill_weights.specs.Making.{is_listed}
use Rattle.genkill_weights.specs.GenKillLaws.{genkill_laws}
use Rattle.genkill_weights.proofs.CallerLemmas.{where_fits, mask_where_fits, equal_by_effects}
use Rattle.document_forms.specs.declared.weight.WeightText.{WeightText}
use Rattle.document_forms.specs.declared.weight.WeightText.TheVariants.{One, Zero, Number, Facts, Forms, Actions}
use Rattle.document_forms.specs.declared.document.MapText.{MapText}
use Rattle.document_forms.specs.Lawful.{IsName}
use Rattle.document_forms.specs.Writing.{spaced}
use Rattle.document_systems.specs.FactWeights.{facts_behind, genkill_weight, genkill_map, genkill_text, IsToldByFacts}
use Rattle.document_systems.specs.ValueTexts.{names_where, or_one}
use Rattle.document_systems.specs.private.RowLaws.{Lacks, rows_tell, passes_apart, names_lack, parts_tell, or_one_tells, or_one_keeps, all_names_where, names_tell}

pub genkill_weights_fit : (n : ℕ) (t : WeightText) → Unit {0} → Fits (genkill_operations n) (genkill_weight n t)
genkill_weights_fit n Zero named = refl
genkill_weights_fit n (Facts ss) named = where_fits n (is_listed (facts_behind true ss)) (is_listed (facts_behind false ss))
genkill_weights_fit n One named = (genkill_laws n).fits-one
genkill_weights_fit n (Number k) named = (genkill_laws n).fits-one
genkill_weights_fit n (Forms ps) named = (genkill_laws n).fits-one
genkill_weights_fit n (Actions acts) named = (genkill_laws n).fits-one

pub genkill_maps_fit : (n : ℕ) (m : MapText) → Unit {0} → FitsMap (genkill_operations n) (genkill_map n m)
genkill_maps_fit n m named = mask_where_fits n (is_listed m.restore)

begins_otherwise : (ws : List (List ℕ)) → spaced (codes "gen" ∷ ws) ≡ codes "unreachable" → ⊥
begins_otherwise [] e = let first : ◌≡◌ {A = ℕ} 103 117 = cc in omega (arith, first)
begins_otherwise (w ∷ ws) e = let first : ◌≡◌ {A = ℕ} 103 117 = cc in omega (arith, first)

pub genkill_zero : (n : ℕ) (facts : List (List ℕ)) (w : GenKillW n) → Unit {0} → Fits (genkill_operations n) w → (genkill_text n facts w ≡ codes "unreachable") ↔ (w ≡ NoRun)
genkill_zero n facts NoRun named fit = (λ e. refl, λ e. refl)
genkill_zero n facts (Map keep gens) named fit = (λ e. absurd (begins_otherwise _ e), λ e. cc)

-- ---- the words of a weight

no_dash : (x : List ℕ) → IsName x → x ≢ codes "-"
no_dash x is = passes_apart is_name_text x (codes "-") refl is.text

no_blank : (x : List ℕ) → IsName x → Lacks 32 x
no_blank x is = names_lack 32 refl x is.text

dash_lacks_blank : Lacks 32 (codes "-")
dash_lacks_blank = All-cons (λ b. nat_eq b 32 ≡ false) 45 [] refl (All-nil (λ b. nat_eq b 32 ≡ false))

module _ (facts : List (List ℕ)) (named : All IsName facts) where
  -- the names of facts that pass a test, or `-`
  abbrev chosen : (ℕ → Bool) → List (List ℕ)
  chosen test = or_one (codes "-") (names_where facts test)

  -- the words behind `gen`
  abbrev effects : (gen kill : ℕ → Bool) → List (List ℕ)
  effects gen kill = chosen gen ++ codes "kill" ∷ chosen kill

  chosen_lack_blanks : (test : ℕ → Bool) → All (Lacks 32) (chosen test)
  chosen_lack_blanks test =
      or_one_keeps (Lacks 32) (codes "-") (names_where facts test) dash_lacks_blank
      (all_names_where (Lacks 32) facts test (All-weaker IsName (Lacks 32) no_blank facts named))

  dashes_apart : (test : ℕ → Bool) → All (λ x. x ≢ codes "-") (names_where facts test)
  dashes_apart test = all_names_where (λ x. x ≢ codes "-") facts test (All-weaker IsName (λ x. x ≢ codes "-") no_dash facts named)

  words_lack_blanks : (gen kill : ℕ → Bool) → All (Lacks 32) (codes "gen" ∷ effects gen kill)
  words_lack_blanks gen kill =
      All-cons (Lacks 32) (codes "gen") (effects gen kill) (names_lack 32 refl (codes "gen") refl)
      (All-append (Lacks 32) (chosen gen) (codes "kill" ∷ chosen kill) (chosen_lack_blanks gen)
      (All-cons (Lacks 32) (codes "kill") (chosen kill) (names_lack 32 refl (codes "kill") refl) (chosen_lack_blanks kill)))

  chosen_tell : IsOnce facts → (p q : ℕ → Bool) → chosen p ≡ chosen q → (f : ℕ) → f < length facts → p f ≡ q f
  chosen_tell once p q e =
      names_tell facts once p q (or_one_tells (codes "-") (names_where facts p) (names_where facts q) (dashes_apart p) (dashes_apart q) e)

  module _ (once : IsOnce facts) (others : All (λ x. x ≢ codes "kill") facts) where
    kill_apart : (test : ℕ → Bool) → All (λ x. x ≢ codes "kill") (chosen test)
    kill_apart test =
        or_one_keeps (λ x. x ≢ codes "kill") (codes "-") (names_where facts test) (λ e. cc)
        (all_names_where (λ x. x ≢ codes "kill") facts test others)

    -- the words tell what is generated and killed of the facts with names
    words_tell : (gen kill gen' kill' : ℕ → Bool)
        → spaced (codes "gen" ∷ effects gen kill) ≡ spaced (codes "gen" ∷ effects gen' kill')
        → ((f : ℕ) → f < length facts → gen f ≡ gen' f) × ((f : ℕ) → f < length facts → kill f ≡ kill' f)
    words_tell gen kill gen' kill' e =
        let words = rows_tell 32 (codes "gen") (codes "gen") (effects gen kill) (effects gen' kill') (words_lack_blanks gen kill) (words_lack_blanks gen' kill') e in
        let parts =
        parts_tell (codes "kill") (chosen gen) (chosen gen') (chosen kill) (chosen kill') (kill_apart gen) (kill_apart gen') (ap (drop 1) words) in
        (chosen_tell once gen gen' parts.0, chosen_tell once kill kill' parts.1)

-- tests that agree on facts with names, and fail on the others
agree : (p q : ℕ → Bool) (count all : ℕ) → ((f : ℕ) → f < count → p f ≡ q f) → ((f : ℕ) → count ≤ f → f < all → p f ≡ false)
    → ((f : ℕ) → count ≤ f → f < all → q f ≡ false) → (f : ℕ) → f < all → p f ≡ q f
agree p q count all same none none' f below = elim (cases_lt f count) [
  | inl less ↦ same f less
  | inr more ↦ none f more below ∙ sym (none' f more below)
]

pub genkill_tells : (n : ℕ) (facts : List (List ℕ)) (v w : GenKillW n) → Unit {0} → IsToldByFacts n facts v → IsToldByFacts n facts w → genkill_text n facts v ≡ genkill_text n facts w → v ≡ w
genkill_tells n facts NoRun NoRun named told told' e = refl
genkill_tells n facts NoRun (Map keep gens) named told told' e = absurd (begins_otherwise _ (sym e))
genkill_tells n facts (Map keep gens) NoRun named told told' e = absurd (begins_otherwise _ e)
genkill_tells n facts (Map k g) (Map l h) named told told' e =
    let v = Map k g in
    let w = Map l h in
    let same = words_tell facts told.names.lawful told.names.once told.others (generates n v) (kills n v) (generates n w) (kills n w) e in
    equal_by_effects n v w told.fits (λ no. cc) told'.fits (λ no. cc)
    (agree (generates n v) (generates n w) (length facts) (64 * n) same.0 told.generates_named told'.generates_named)
    (agree (kills n v) (kills n w) (length facts) (64 * n) same.1 told.kills_named told'.kills_named)
