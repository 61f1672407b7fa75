-- What no row lists gives no job.
use Rattle.std.proofs.Common.{◌≡◌, ℕ, zero, suc, ◌+◌, Bool, true, false, List, [], ◌∷◌, ◌++◌, refl, sym, ap, ap₂, ◌∙◌, arith}
use Rattle.std.specs.Prelude.{Option, None, Some, nat_eq, ◌&&◌, not, slice_get}
use Rattle.std.specs.List.{flat_map}
use Rattle.std.proofs.lemmas.Bool.{and_parts, and_from, cond-true, cond-false, cond_both, eqb-true, eq-eqb, false_from_ne_true}
use Rattle.std.proofs.lemmas.Option.{same_Some}
use Rattle.weighted_automata.specs.declared.place.Place.{Place}
use Rattle.weighted_automata.specs.declared.place.Label.TheVariants.{Symbol, Empty}
use Rattle.weighted_automata.specs.declared.transitions.Entry.{Entry}
use Rattle.weighted_automata.specs.Places.{same_label, same_place}
use Rattle.weighted_automata.specs.Entries.{is_from, entry_at, HasDistinctPlaces}
use Rattle.weighted_automata.proofs.CallerLemmas.{same_place_from, same_place_is}
use Rattle.key_rows.specs.Rows.{index_from}
use Rattle.pushdown_rules.specs.declared.rule.Rule.{Rule}
use Rattle.pushdown_rules.specs.Rows.{first_of, second_of, is_symbol, goes_onto, pushes_over, next_onto, next_over}
use Rattle.pushdown_rules.proofs.CallerLemmas.{index_found, onto_goes_on, over_goes_on}
use Rattle.saturation_laws.specs.declared.job.JobKind.{JobKind}
use Rattle.saturation_laws.specs.declared.job.Job.{Job}
use Rattle.direction_parts.specs.Places.{arrow}
use Rattle.direction_parts.specs.Passes.{only_if, one_symbol, two_symbols}
use Rattle.direction_parts.proofs.CallerLemmas.{from_is, only_where}
use Rattle.prestar_laws.specs.Jobs.{step_job, step_of, push_job, goes_on, are_inputs, pair_jobs, may_be_input, pairs_of, push_of}
use Rattle.prestar.specs.private.Rows.{may_be_first, may_be_second, is_first, is_second}

only_none : {X : Type 0} (test : Bool) (x : X) → test ≡ false → only_if test x ≡ []
only_none test x e = cond-false test (x ∷ []) [] e

none_listed : {X Y : Type 0} (f : X → List Y) → ((x : X) → f x ≡ []) → (xs : List X) → flat_map f xs ≡ []
none_listed f none [] = refl
none_listed f none (x ∷ xs) = ap (λ ys. ys ++ flat_map f xs) (none x) ∙ none_listed f none xs

not_both : {P : Type 0} (b : Bool) → b ≡ false → b ≡ true → P
not_both b fails holds = let e : true ≡ false = sym holds ∙ fails in cc

module _ {S W Map : Type 0} (t : Entry S W Map) where
  abbrev no_jobs : List (Job S W Map)
  no_jobs = []

  reads : (g a : ℕ) → t.place.label ≡ Symbol g → same_label t.place.label (Symbol a) ≡ true → g ≡ a
  reads g a label h = eqb-true g a (ap (λ l. same_label l (Symbol a)) (sym label) ∙ h)

  reads_none : (a : ℕ) → t.place.label ≡ Empty → same_label t.place.label (Symbol a) ≡ false
  reads_none a label = ap (λ l. same_label l (Symbol a)) label

  not_from : (q a : ℕ) → t.place.label ≡ Empty → is_from q (Symbol a) t ≡ false
  not_from q a label = false_from_ne_true (is_from q (Symbol a) t) (λ e. not_both (same_label t.place.label (Symbol a)) (reads_none a label) (and_parts (nat_eq t.place.from q) (same_label t.place.label (Symbol a)) e).1)

  -- A step rule.
  module _ (k : ℕ) (r : Rule S W Map) where
    step_by : (w : List ℕ) → ((a : ℕ) → w ≡ a ∷ [] → is_from r.to (Symbol a) t ≡ false)
        → elim (one_symbol w) [ None ↦ no_jobs | Some g ↦ only_if (is_from r.to (Symbol g) t) (step_job k r t) ] ≡ no_jobs
    step_by [] other = refl
    step_by (a ∷ []) other = only_none (is_from r.to (Symbol a) t) (step_job k r t) (other a refl)
    step_by (a ∷ b ∷ w) other = refl

    pub step_empty : t.place.label ≡ Empty → step_of t k r ≡ []
    step_empty label = step_by r.right (λ a e. not_from r.to a label)

    pub step_only : (g : ℕ) → t.place.label ≡ Symbol g → goes_onto t.place.from g r ≡ false → step_of t k r ≡ []
    step_only g label other = step_by r.right (λ a e. false_from_ne_true (is_from r.to (Symbol a) t) (λ h.
        let parts = and_parts (nat_eq t.place.from r.to) (same_label t.place.label (Symbol a)) h in
        not_both (goes_onto t.place.from g r) other (and_from (nat_eq r.to t.place.from) (is_symbol g (first_of r.right)) (eq-eqb r.to t.place.from (sym (eqb-true t.place.from r.to parts.0)))
        (ap (λ w. is_symbol g (first_of w)) e ∙ eq-eqb a g (sym (reads g a label parts.1))))))

  -- A push rule that leaves a on top of b.
  module _ (controls : ℕ) (kind : JobKind) (k : ℕ) (r : Rule S W Map) where
    pairs_none : (a b : ℕ) → ((u : Entry S W Map) → pair_jobs controls kind k r a b t u ≡ []) → (ts : List (Entry S W Map)) → pairs_of controls kind ts t k r a b ≡ []
    pairs_none a b none ts = cond_both (may_be_input r a b t) (flat_map (pair_jobs controls kind k r a b t) ts) [] (λ ys. ys ≡ []) (λ _. none_listed (pair_jobs controls kind k r a b t) none ts) (λ _. refl)

    pair_none : (a b : ℕ) (u : Entry S W Map) → (are_inputs controls kind r a b t u ≡ true → ⊥) → (are_inputs controls kind r a b u t ≡ true → ⊥) → pair_jobs controls kind k r a b t u ≡ []
    pair_none a b u as_first as_second =
        let one = not (same_place u.place t.place) in
        ap₂ (λ xs ys. xs ++ ys)
        (only_none (are_inputs controls kind r a b t u) (push_job kind k r t u) (false_from_ne_true (are_inputs controls kind r a b t u) as_first))
        (only_none (one && are_inputs controls kind r a b u t) (push_job kind k r u t)
        (false_from_ne_true (one && are_inputs controls kind r a b u t) (λ e. as_second (and_parts one (are_inputs controls kind r a b u t) e).1)))

    push_by : (ts : List (Entry S W Map)) (w : List ℕ) → ((a b : ℕ) → w ≡ a ∷ b ∷ [] → (u : Entry S W Map) → pair_jobs controls kind k r a b t u ≡ [])
        → elim (two_symbols w) [ None ↦ no_jobs | Some v ↦ pairs_of controls kind ts t k r v.0 v.1 ] ≡ no_jobs
    push_by ts [] none = refl
    push_by ts (a ∷ []) none = refl
    push_by ts (a ∷ b ∷ []) none = pairs_none a b (none a b refl) ts
    push_by ts (a ∷ b ∷ c ∷ w) none = refl

    pub push_empty : (ts : List (Entry S W Map)) → t.place.label ≡ Empty → push_of controls kind ts t k r ≡ []
    push_empty ts label = push_by ts r.right (λ a b e u. pair_none a b u
        (λ h. not_both (is_from r.to (Symbol a) t) (not_from r.to a label) (and_parts (is_from r.to (Symbol a) t) (is_from t.place.to (Symbol b) u && goes_on controls kind t.place.to) h).0)
        (λ h. not_both (is_from u.place.to (Symbol b) t) (not_from u.place.to b label)
        (and_parts (is_from u.place.to (Symbol b) t) (goes_on controls kind u.place.to) (and_parts (is_from r.to (Symbol a) u) (is_from u.place.to (Symbol b) t && goes_on controls kind u.place.to) h).1).0))

    -- where it is an input, a row lists the rule
    first_listed : (g : ℕ) → t.place.label ≡ Symbol g → (a b : ℕ) → r.right ≡ a ∷ b ∷ [] → (u : Entry S W Map) → are_inputs controls kind r a b t u ≡ true → may_be_first controls kind t.place.from g t.place.to r ≡ true
    first_listed g label a b e u h =
        let parts = and_parts (is_from r.to (Symbol a) t) (is_from t.place.to (Symbol b) u && goes_on controls kind t.place.to) h in
        let goes = and_parts (is_from t.place.to (Symbol b) u) (goes_on controls kind t.place.to) parts.1 in
        let here = and_parts (nat_eq t.place.from r.to) (same_label t.place.label (Symbol a)) parts.0 in
        and_from (goes_on controls kind t.place.to) (goes_onto t.place.from g r) goes.1
        (and_from (nat_eq r.to t.place.from) (is_symbol g (first_of r.right)) (eq-eqb r.to t.place.from (sym (eqb-true t.place.from r.to here.0)))
        (ap (λ w. is_symbol g (first_of w)) e ∙ eq-eqb a g (sym (reads g a label here.1))))

    second_listed : (g : ℕ) → t.place.label ≡ Symbol g → (a b : ℕ) → r.right ≡ a ∷ b ∷ [] → (u : Entry S W Map) → are_inputs controls kind r a b u t ≡ true → may_be_second controls kind t.place.from g r ≡ true
    second_listed g label a b e u h =
        let parts = and_parts (is_from r.to (Symbol a) u) (is_from u.place.to (Symbol b) t && goes_on controls kind u.place.to) h in
        let goes = and_parts (is_from u.place.to (Symbol b) t) (goes_on controls kind u.place.to) parts.1 in
        let here = and_parts (nat_eq t.place.from u.place.to) (same_label t.place.label (Symbol b)) goes.0 in
        and_from (goes_on controls kind t.place.from) (pushes_over g r) (ap (goes_on controls kind) (eqb-true t.place.from u.place.to here.0) ∙ goes.1)
        (ap (λ w. is_symbol g (second_of w)) e ∙ eq-eqb b g (sym (reads g b label here.1)))

    pub push_only : (ts : List (Entry S W Map)) (g : ℕ) → t.place.label ≡ Symbol g → may_be_first controls kind t.place.from g t.place.to r ≡ false → may_be_second controls kind t.place.from g r ≡ false
        → push_of controls kind ts t k r ≡ []
    push_only ts g label other_first other_second = push_by ts r.right (λ a b e u. pair_none a b u
        (λ h. not_both (may_be_first controls kind t.place.from g t.place.to r) other_first (first_listed g label a b e u h))
        (λ h. not_both (may_be_second controls kind t.place.from g r) other_second (second_listed g label a b e u h)))

    -- a partner that is neither input
    pub pair_only : (g h : ℕ) (u : Entry S W Map) → is_second controls kind r g h t u ≡ false → is_first controls kind r g h t u ≡ false → pair_jobs controls kind k r g h t u ≡ []
    pair_only g h u other_second other_first = pair_none g h u
        (λ e.
        let parts = and_parts (is_from r.to (Symbol g) t) (is_from t.place.to (Symbol h) u && goes_on controls kind t.place.to) e in
        let more = and_parts (is_from t.place.to (Symbol h) u) (goes_on controls kind t.place.to) parts.1 in
        not_both (is_second controls kind r g h t u) other_second
        (and_from (is_from r.to (Symbol g) t && goes_on controls kind t.place.to) (is_from t.place.to (Symbol h) u) (and_from (is_from r.to (Symbol g) t) (goes_on controls kind t.place.to) parts.0 more.1) more.0))
        (λ e.
        let parts = and_parts (is_from r.to (Symbol g) u) (is_from u.place.to (Symbol h) t && goes_on controls kind u.place.to) e in
        let more = and_parts (is_from u.place.to (Symbol h) t) (goes_on controls kind u.place.to) parts.1 in
        let here = and_parts (nat_eq t.place.from u.place.to) (same_label t.place.label (Symbol h)) more.0 in
        let meets : t.place.from ≡ u.place.to = eqb-true t.place.from u.place.to here.0 in
        let at : u.place ≡ arrow r.to g t.place.from = from_is r.to g u parts.0 ∙ ap (arrow r.to g) (sym meets) in
        not_both (is_first controls kind r g h t u) other_first
        (and_from (same_label t.place.label (Symbol h) && goes_on controls kind t.place.from) (same_place u.place (arrow r.to g t.place.from))
        (and_from (same_label t.place.label (Symbol h)) (goes_on controls kind t.place.from) here.1 (ap (goes_on controls kind) meets ∙ more.1)) (same_place_from u.place (arrow r.to g t.place.from) at)))

module _ {S W Map : Type 0} where
  stands : (ts : List (Entry S W Map)) (j : ℕ) (v : Entry S W Map) → slice_get ts j ≡ Some v → entry_at v.place ts ≡ None → ⊥
  stands [] j v there e = cc
  stands (t ∷ ts) zero v there e =
      let f : Some t ≡ None = sym (cond-true (same_place t.place v.place) (Some t) (entry_at v.place ts) (same_place_from t.place v.place (ap (λ (u : Entry S W Map). u.place) (same_Some t v there)))) ∙ e in cc
  stands (t ∷ ts) (suc j) v there e =
      cond_both (same_place t.place v.place) (Some t) (entry_at v.place ts) (λ o. o ≡ None → ⊥) (λ _ f. cc) (λ _ f. stands ts j v there f) e

  -- no place stands twice
  at_once : (ts : List (Entry S W Map)) → HasDistinctPlaces ts → (k j : ℕ) (u v : Entry S W Map) → slice_get ts k ≡ Some u → slice_get ts j ≡ Some v → u.place ≡ v.place → k ≡ j
  at_once [] _ k j u v there other e = cc
  at_once (t ∷ ts) distinct zero zero u v there other e = refl
  at_once (t ∷ ts) distinct zero (suc j) u v there other e =
      absurd (stands ts j v other (ap (λ x. entry_at x ts) (sym (ap (λ (w : Entry S W Map). w.place) (same_Some t u there) ∙ e)) ∙ distinct.0))
  at_once (t ∷ ts) distinct (suc k) zero u v there other e =
      absurd (stands ts k u there (ap (λ x. entry_at x ts) (e ∙ sym (ap (λ (w : Entry S W Map). w.place) (same_Some t v other))) ∙ distinct.0))
  at_once (t ∷ ts) distinct (suc k) (suc j) u v there other e = ap suc (at_once ts distinct.1 k j u v there other e)

  -- so behind the transition at a place there is no other
  pub no_other : (b : Bool) (x : Place) (ts : List (Entry S W Map)) (k : ℕ) → HasDistinctPlaces ts → index_from (λ (u : Entry S W Map). b && same_place u.place x) k ts ≡ Some k
      → None ≡ index_from (λ (u : Entry S W Map). b && same_place u.place x) (k + 1) ts
  no_other b x ts k distinct at = elim (index_from (λ (u : Entry S W Map). b && same_place u.place x) (k + 1) ts) as (λ o. index_from (λ (u : Entry S W Map). b && same_place u.place x) (k + 1) ts ≡ o → None ≡ o) [
    | None ↦ λ _. refl
    | Some j ↦ λ is.
        let here = (index_found (λ (u : Entry S W Map). b && same_place u.place x) k ts k at).0 in
        let found = index_found (λ (u : Entry S W Map). b && same_place u.place x) (k + 1) ts j is in
        let same : here.item.place ≡ found.0.item.place = same_place_is here.item.place x (and_parts b (same_place here.item.place x) here.passes).1
        ∙ sym (same_place_is found.0.item.place x (and_parts b (same_place found.0.item.place x) found.0.passes).1) in
        let one : k ≡ j = at_once ts distinct k j here.item found.0.item here.there found.0.there same in
        let far = found.1 in
        absurd (omega (arith, one, far))
  ] refl

-- The next of a row whose test says also that the kind fits.
module _ {S W Map : Type 0} (b : Bool) (k : ℕ) where
  pub onto_next : (from symbol : ℕ) (rs : List (Rule S W Map)) (next : Option ℕ) → index_from (λ r. b && goes_onto from symbol r) k rs ≡ Some k → next ≡ next_onto k rs
      → next ≡ index_from (λ r. b && goes_onto from symbol r) (k + 1) rs
  onto_next from symbol rs next at is =
      let found = (index_found (λ r. b && goes_onto from symbol r) k rs k at).0 in
      let parts = and_parts b (goes_onto from symbol found.item) found.passes in
      is ∙ onto_goes_on rs k found.item found.there from symbol parts.1 ∙ only_where b (goes_onto from symbol) (k + 1) rs parts.0

  pub over_next : (symbol : ℕ) (rs : List (Rule S W Map)) (next : Option ℕ) → index_from (λ r. b && pushes_over symbol r) k rs ≡ Some k → next ≡ next_over k rs
      → next ≡ index_from (λ r. b && pushes_over symbol r) (k + 1) rs
  over_next symbol rs next at is =
      let found = (index_found (λ r. b && pushes_over symbol r) k rs k at).0 in
      let parts = and_parts b (pushes_over symbol found.item) found.passes in
      is ∙ over_goes_on rs k found.item found.there symbol parts.1 ∙ only_where b (pushes_over symbol) (k + 1) rs parts.0

  pub second_next : (q h : ℕ) (ts : List (Entry S W Map)) (next : Option ℕ) → index_from (λ u. b && is_from q (Symbol h) u) k ts ≡ Some k
      → ((u : Entry S W Map) → slice_get ts k ≡ Some u → next ≡ index_from (is_from u.place.from u.place.label) (k + 1) ts)
      → next ≡ index_from (λ u. b && is_from q (Symbol h) u) (k + 1) ts
  second_next q h ts next at goes =
      let found = (index_found (λ u. b && is_from q (Symbol h) u) k ts k at).0 in
      let parts = and_parts b (is_from q (Symbol h) found.item) found.passes in
      let place = from_is q h found.item parts.1 in
      goes found.item found.there ∙ ap (λ (x : Place). index_from (is_from {S = S} {W = W} {Map = Map} x.from x.label) (k + 1) ts) place
      ∙ only_where b (is_from q (Symbol h)) (k + 1) ts parts.0
