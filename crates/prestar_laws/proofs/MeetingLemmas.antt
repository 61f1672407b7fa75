-- In a closed set of weights each place lies below its runs.
use Rattle.std.proofs.Common.{◌≡◌, inl, inr, ℕ, zero, suc, ◌+◌, ◌<◌, ◌≤◌, List, [], ◌∷◌, ◌++◌, length, refl, sym, ap, ◌∙◌, subst, arith}
use Rattle.std.specs.Prelude.{Some, slice_get, unwrap_or}
use Rattle.std.proofs.lemmas.List.{length-append, append-nil}
use Rattle.semiring_laws.specs.Semiring.{Operations, IsSemiring, Fits, Below}
use Rattle.weighted_automata.specs.declared.place.Place.{Place}
use Rattle.pushdown_rules.specs.declared.rule.Rule.{Rule}
use Rattle.pushdown_rules.specs.Configuration.{Configuration}
use Rattle.pushdown_rules.specs.Pushdown.{Pushdown, IsSystem}
use Rattle.pushdown_rules.specs.Firing.{Run}
use Rattle.pushdown_rules.specs.Values.{value_of}
use Rattle.wpds_base.specs.Lists.{IsIn}
use Rattle.pushdown_rules.proofs.CallerLemmas.{rule_at, fired, none_from_nothing, weight_fits, map_fits, step_value, push_value, open_value, ends_control, split}
use Rattle.semiring_laws.proofs.CallerLemmas.{below_trans, extend_keeps_below as extend_below, extend_left_keeps_below as extend_below_right, after_keeps_below as after_below}
use Rattle.saturation_laws.specs.Paths.{Reads}
use Rattle.prestar_laws.specs.Reading.{LeadsTo}
use Rattle.prestar_laws.proofs.Weights.{IsClosedUnder}
use Rattle.prestar_laws.proofs.RowLemmas.{fits, pop_value}
use Rattle.pushdown_rules.specs.Configuration.{at_stack}
use Rattle.pushdown_rules.specs.Splits.{Falls, Stays}
use Rattle.direction_parts.specs.Places.{LeadsToItems, arrow}
use Rattle.direction_parts.proofs.CallerLemmas.{reads_to_item}

-- reading on from where a word was read
pub record ReadsParts (edges : List Place) (from : ℕ) (first rest : List ℕ) (to : ℕ) : Type 0 where
  pub mid : ℕ
  pub reads : Reads edges from first mid
  pub reads_on : Reads edges mid rest to

pub reads_parts : (edges : List Place) (from : ℕ) (first rest : List ℕ) (to : ℕ) → Reads edges from (first ++ rest) to → ReadsParts edges from first rest to
reads_parts edges from [] rest to reads = record { mid = from; reads = refl; reads_on = reads }
reads_parts edges from (g ∷ first) rest to reads =
    let next = reads_parts edges reads.0 first rest to reads.2 in
    record { mid = next.mid; reads = (reads.0, reads.1, next.reads); reads_on = next.reads_on }

module _ {S W Map : Type 0} {operations : S → Operations W Map} {p : Pushdown S W Map} (valid : IsSystem operations p) (laws : IsSemiring (operations p.semiring))
    (edges : List Place) (items : LeadsToItems p.controls edges) (weight : Place → W) (closed : IsClosedUnder (operations p.semiring) p edges weight) where
  abbrev s : Operations W Map
  s = operations p.semiring

  abbrev value : List ℕ → W
  value = value_of s p

  abbrev fv : (run : List ℕ) → Fits s (value run)
  fv run = fits valid laws run

  -- what is known of shorter runs
  abbrev BelowUpTo : ℕ → Type 0
  BelowUpTo n = (run : List ℕ) → length run ≤ n → (from g q : ℕ) → LeadsTo p edges from g q run → Below s (weight (arrow from g q)) (value run)

  module _ (n : ℕ) (known : BelowUpTo n) (k : ℕ) (r : Rule S W Map) (there : slice_get p.rules k ≡ Some r) (run : List ℕ) (short : length run ≤ n) (q : ℕ) (d : Configuration)
      (reads : Reads edges d.control d.stack q) where
    abbrev goal : W
    goal = weight (arrow r.control r.symbol q)

    fg : Fits s goal
    fg = closed.fits (arrow r.control r.symbol q)

    fr : Fits s r.weight
    fr = weight_fits valid laws k r there

    -- the rule, and then a run from what it leaves
    by_word : (word : List ℕ) → r.right ≡ word → length word ≤ 2 → Run p (at_stack r.to word) run d → Below s goal (value (k ∷ run))
    by_word [] right few goes =
        let over : run ≡ [] = none_from_nothing p run (at_stack r.to []) d refl goes in
        let P : List ℕ → Type 0 = λ v. Run p (at_stack r.to []) v d in
        let same : at_stack r.to [] ≡ d = subst P over goes in
        let Q : Configuration → Type 0 = λ e. Reads edges e.control e.stack q in
        let to : r.to ≡ q = subst Q (sym same) reads in
        let R : ℕ → Type 0 = λ m. Below s (weight (arrow r.control r.symbol m)) r.weight in
        let T : W → Type 0 = Below s goal in
        subst T (sym (ap (λ v. value (k ∷ v)) over ∙ pop_value valid laws k r there right)) (subst R to (closed.pops k r there right))
    by_word (g ∷ []) right few goes =
        let next = weight (arrow r.to g q) in
        let fnext = closed.fits (arrow r.to g q) in
        let below : Below s next (value run) = known run short r.to g q (d, goes, reads) in
        let T : W → Type 0 = Below s goal in
        subst T (sym (step_value valid laws k r there g right run))
        (below_trans laws goal (s.extend r.weight next) (s.extend r.weight (value run)) fg (laws.fits-extend r.weight next fr fnext) (laws.fits-extend r.weight (value run) fr (fv run))
        (closed.steps k r there g right q) (extend_below_right laws r.weight next (value run) fr fnext (fv run) below))
    by_word (g₁ ∷ g₂ ∷ []) right few goes = elim (split p run r.to (g₁ ∷ []) (g₂ ∷ []) d goes) [
      | inl h ↦
          let h' : Falls p r.to (g₁ ∷ []) (g₂ ∷ []) run d = h in
          let q₁ = h'.control in
          let a = h'.first in
          let b = h'.rest in
          let long : length run ≡ length a + length b = ap length h'.joins ∙ length-append a b in
          let control : q₁ < p.controls = ends_control valid laws a (at_stack r.to (g₁ ∷ [])) (at_stack q₁ []) h'.goes (rule_at valid k r there).to in
          let w₁ = weight (arrow r.to g₁ q₁) in
          let w₂ = weight (arrow q₁ g₂ q) in
          let f₁ = closed.fits (arrow r.to g₁ q₁) in
          let f₂ = closed.fits (arrow q₁ g₂ q) in
          let first : Below s w₁ (value a) = known a (omega arith) r.to g₁ q₁ (at_stack q₁ [], h'.goes, refl) in
          let second : Below s w₂ (value b) = known b (omega arith) q₁ g₂ q (d, h'.goes_on, reads) in
          let m = unwrap_or r.map s.plain in
          let fm = map_fits valid laws k r there g₁ g₂ right in
          let e₁ = laws.fits-extend r.weight w₁ fr f₁ in
          let e₂ = laws.fits-extend r.weight (value a) fr (fv a) in
          let inside : Below s (s.after m (s.extend r.weight w₁)) (s.after m (s.extend r.weight (value a))) =
          after_below laws m (s.extend r.weight w₁) (s.extend r.weight (value a)) fm e₁ e₂ (extend_below_right laws r.weight w₁ (value a) fr f₁ (fv a) first) in
          let i₁ = laws.fits-after m (s.extend r.weight w₁) fm e₁ in
          let i₂ = laws.fits-after m (s.extend r.weight (value a)) fm e₂ in
          let all = extend_below laws (s.after m (s.extend r.weight w₁)) (s.after m (s.extend r.weight (value a))) w₂ (value b) i₁ i₂ f₂ (fv b) inside second in
          let T : W → Type 0 = Below s goal in
          subst T (sym (ap (λ v. value (k ∷ v)) h'.joins ∙ push_value valid laws k r there g₁ g₂ right a b (at_stack r.to (g₁ ∷ [])) (at_stack q₁ []) h'.goes refl refl))
          (below_trans laws goal (s.extend (s.after m (s.extend r.weight w₁)) w₂) (s.extend (s.after m (s.extend r.weight (value a))) (value b)) fg
          (laws.fits-extend (s.after m (s.extend r.weight w₁)) w₂ i₁ f₂) (laws.fits-extend (s.after m (s.extend r.weight (value a))) (value b) i₂ (fv b))
          (closed.calls k r there g₁ g₂ right q₁ q control) all)
      | inr h ↦
          let h' : Stays p r.to (g₁ ∷ []) (g₂ ∷ []) run d = h in
          let P : List ℕ → Type 0 = λ w. Reads edges d.control w q in
          let parts = reads_parts edges d.control h'.word (g₂ ∷ []) q (subst P h'.ends reads) in
          let q₁ = parts.mid in
          let item : p.controls ≤ q₁ = reads_to_item p.controls edges items d.control h'.word q₁ h'.full parts.reads in
          let Q : ℕ → Type 0 = λ m. IsIn (arrow q₁ g₂ m) edges in
          let edge : IsIn (arrow q₁ g₂ q) edges = subst Q parts.reads_on.2 parts.reads_on.1 in
          let w₁ = weight (arrow r.to g₁ q₁) in
          let w₂ = weight (arrow q₁ g₂ q) in
          let f₁ = closed.fits (arrow r.to g₁ q₁) in
          let f₂ = closed.fits (arrow q₁ g₂ q) in
          let first : Below s w₁ (value run) = known run short r.to g₁ q₁ (at_stack d.control h'.word, h'.goes, parts.reads) in
          let second : Below s w₂ s.one = closed.opens q₁ g₂ q edge in
          let e₁ = laws.fits-extend r.weight w₁ fr f₁ in
          let e₂ = laws.fits-extend r.weight (value run) fr (fv run) in
          let all = extend_below laws (s.extend r.weight w₁) (s.extend r.weight (value run)) w₂ s.one e₁ e₂ f₂ laws.fits-one
          (extend_below_right laws r.weight w₁ (value run) fr f₁ (fv run) first) second in
          let T : W → Type 0 = Below s goal in
          subst T (laws.extend-one_right (s.extend r.weight (value run)) e₂ ∙ sym (open_value valid laws k r there g₁ g₂ right run (at_stack r.to (g₁ ∷ [])) (at_stack d.control h'.word) h'.goes refl h'.full))
          (below_trans laws goal (s.extend (s.extend r.weight w₁) w₂) (s.extend (s.extend r.weight (value run)) s.one) fg
          (laws.fits-extend (s.extend r.weight w₁) w₂ e₁ f₂) (laws.fits-extend (s.extend r.weight (value run)) s.one e₂ laws.fits-one)
          (closed.stays k r there g₁ g₂ right q₁ q item) all)
    ]
    by_word (g₁ ∷ g₂ ∷ g₃ ∷ word) right few goes = absurd (omega arith)

  below_up_to : (n : ℕ) → BelowUpTo n
  below_up_to n [] short from g q leads =
      let P : Configuration → Type 0 = λ c. Reads edges c.control c.stack q in
      let reads : Reads edges from (g ∷ []) q = subst P (sym leads.1) leads.2 in
      let Q : ℕ → Type 0 = λ m. IsIn (arrow from g m) edges in
      closed.opens from g q (subst Q reads.2 reads.1)
  below_up_to zero (k ∷ run) short from g q leads = absurd (omega arith)
  below_up_to (suc n) (k ∷ run) short from g q leads =
      let d = leads.0 in
      let goes = leads.1 in
      let f = fired p k (at_stack from (g ∷ [])) goes.0 goes.1 in
      let r = f.rule in
      let control : from ≡ r.control = ap (λ (x : Configuration). x.control) f.head in
      let stack : g ∷ [] ≡ r.symbol ∷ f.rest = ap (λ (x : Configuration). x.stack) f.head in
      let symbol : g ≡ r.symbol = cc in
      let none : [] ≡ f.rest = cc in
      let mid : goes.0 ≡ at_stack r.to r.right = f.after ∙ ap (at_stack r.to) (ap (λ w. r.right ++ w) (sym none) ∙ append-nil r.right) in
      let P : Configuration → Type 0 = λ c. Run p c run d in
      let Q : ℕ → ℕ → Type 0 = λ c h. Below s (weight (arrow c h q)) (value (k ∷ run)) in
      let few : length r.right ≤ 2 = (rule_at valid k r f.there).fits.short in
      let end : Q r.control r.symbol = by_word n (below_up_to n) k r f.there run (omega arith) q d leads.2 r.right refl few (subst P mid goes.2) in
      let R : ℕ → Type 0 = λ c. Q c r.symbol in
      let T : ℕ → Type 0 = λ h. Q from h in
      subst T (sym symbol) (subst R (sym control) end)

  -- each place lies below its runs
  pub place_below : (run : List ℕ) (from g q : ℕ) → LeadsTo p edges from g q run → Below s (weight (arrow from g q)) (value run)
  place_below run from g q leads = below_up_to (length run) run (omega arith) from g q leads
