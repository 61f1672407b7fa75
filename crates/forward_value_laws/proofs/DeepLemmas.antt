-- In closed weights each run is met by a row and a way down from it.
use Rattle.std.proofs.Common.{◌≡◌, ◌≢◌, inl, inr, ℕ, zero, suc, ◌+◌, ◌≤◌, List, [], ◌∷◌, ◌++◌, length, refl, sym, ap, ◌∙◌, subst, append_assoc, arith}
use Rattle.std.specs.Prelude.{Some, slice_get, IsTrue}
use Rattle.std.proofs.lemmas.List.{length-append}
use Rattle.semiring_laws.specs.Semiring.{Operations, IsSemiring, Fits, Below}
use Rattle.semiring_laws.proofs.CallerLemmas.{below_itself, below_trans, zero_below, extend_keeps_below}
use Rattle.pushdown_rules.specs.declared.rule.Rule.{Rule}
use Rattle.pushdown_rules.specs.Configuration.{Configuration, at_stack}
use Rattle.pushdown_rules.specs.Pushdown.{Pushdown, IsSystem}
use Rattle.pushdown_rules.specs.Firing.{Run}
use Rattle.pushdown_rules.specs.Values.{value_of}
use Rattle.pushdown_rules.specs.Splits.{Falls, Stays}
use Rattle.pushdown_rules.proofs.CallerLemmas.{rule_at, fired, none_from_nothing, value_fits, weight_fits, step_value, open_value, split, joined_value}
use Rattle.config_patterns.specs.declared.item.Item.{Item}
use Rattle.config_patterns.specs.declared.edge.Edge.{Edge}
use Rattle.config_patterns.specs.Edges.{edges_of, is_final_of}
use Rattle.config_patterns.specs.Paths.{Reads}
use Rattle.forward_value_laws.specs.Model.{Source, item, callee, head_of, IsClosed, IsItem, IsOpen, Down, IsMet}
use Rattle.forward_value_laws.proofs.MeetingLemmas.{call_worth, call_fits, call_value, comes_back, step_below, pop_worth, fires_on, row_goes_on}

module _ {S W Map : Type 0} {operations : S → Operations W Map} {p : Pushdown S W Map} (valid : IsSystem operations p) (laws : IsSemiring (operations p.semiring))
    (start : ℕ) (items : List Item) (weight : Configuration → Source → W) (closed : IsClosed (operations p.semiring) p start (edges_of items) weight) where
  abbrev s : Operations W Map
  s = operations p.semiring

  abbrev value : List ℕ → W
  value = value_of s p

  abbrev fv : (run : List ℕ) → Fits s (value run)
  fv run = value_fits valid laws run

  abbrev edges : List Edge
  edges = edges_of items

  abbrev Met : Configuration → W → Type 0
  Met d v = IsMet s p items weight d v

  pub down_fits : (word : List ℕ) (from : Source) (w : W) → Down s p items weight word from w → Fits s w
  down_fits [] (item i) w down = subst (Fits s) (sym down.3) laws.fits-one
  down_fits (h ∷ word) (item i) w down = subst (Fits s) (sym down.3) laws.fits-one
  down_fits [] (callee to g) w down = absurd down
  down_fits (h ∷ word) (callee to g) w down =
      let open_call = down.3 in
      let fu : Fits s down.2 = subst (Fits s) (sym open_call.worth) (laws.fits-extend (weight (head_of open_call.rule) down.0) open_call.rule.weight (closed.fits (head_of open_call.rule) down.0)
      (weight_fits valid laws open_call.number open_call.rule open_call.there)) in
      subst (Fits s) (sym down.5) (laws.fits-extend down.1 down.2 (down_fits word down.0 down.1 down.4) fu)

  -- What stands below a row.
  pub record IsUnder (under : List ℕ) (from : Source) (u : W) : Type 0 where
    pub deep : W
    pub down : Down s p items weight under from deep
    pub fits : Fits s u
    pub below : Below s deep u

  abbrev DeepOn : ℕ → Type 0
  DeepOn n = (run : List ℕ) → length run ≤ n → (y d : Configuration) (from : Source) (v : W) → Fits s v → Below s (weight y from) v
      → length y.stack ≤ 1 → (d.stack ≡ [] → IsItem from) → Run p y run d → s.extend v (value run) ≢ s.zero
      → (under : List ℕ) (u : W) → IsUnder under from u → Met (at_stack d.control (d.stack ++ under)) (s.extend u (s.extend v (value run)))

  module _ (n : ℕ) (known : DeepOn n) (k : ℕ) (r : Rule S W Map) (there : slice_get p.rules k ≡ Some r) (run : List ℕ) (short : length run ≤ n)
      (d : Configuration) (from : Source) (v : W) (fits : Fits s v) (below : Below s (weight (head_of r) from) v) (full : d.stack ≡ [] → IsItem from)
      (live : s.extend v (value (k ∷ run)) ≢ s.zero) (under : List ℕ) (u : W) (is : IsUnder under from u) where
    abbrev fr : Fits s r.weight
    fr = weight_fits valid laws k r there

    abbrev Q : W → Type 0
    Q w = Met (at_stack d.control (d.stack ++ under)) (s.extend u w)

    some : weight (head_of r) from ≢ s.zero
    some none =
        let P : W → Type 0 = λ x. Below s x v in
        let dead : v ≡ s.zero = zero_below laws v fits (subst P none below) in
        live (ap (λ x. s.extend x (value (k ∷ run))) dead ∙ laws.extend-zero_left (value (k ∷ run)) (fv (k ∷ run)))

    stepped : (word : List ℕ) → r.right ≡ word → length word ≤ 1 → Run p (at_stack r.to word) run d → value (k ∷ run) ≡ s.extend r.weight (value run)
        → Met (at_stack d.control (d.stack ++ under)) (s.extend u (s.extend v (value (k ∷ run))))
    stepped word right few goes worth =
        let here = step_below valid laws start edges weight closed k r there word right few from v fits below in
        let e : s.extend (s.extend v r.weight) (value run) ≡ s.extend v (value (k ∷ run)) = laws.extend_assoc v r.weight (value run) fits fr (fv run) ∙ ap (s.extend v) (sym worth) in
        subst Q e (known run short (at_stack r.to word) d from (s.extend v r.weight) (laws.fits-extend v r.weight fits fr) here few full goes (λ z. live (sym e ∙ z)) under u is)

    returned : (g h : ℕ) → r.right ≡ g ∷ h ∷ [] → Falls p r.to (g ∷ []) (h ∷ []) run d → Met (at_stack d.control (d.stack ++ under)) (s.extend u (s.extend v (value (k ∷ run))))
    returned g h right f =
        let q = f.control in
        let a = f.first in
        let b = f.rest in
        let long : length run ≡ length a + length b = ap length f.joins ∙ length-append a b in
        let c = call_worth valid laws start edges weight closed r a in
        let fc = call_fits valid laws start edges weight closed k r there g h right a in
        let inside = row_goes_on valid laws start edges weight closed a (at_stack r.to (g ∷ [])) (at_stack q []) (callee r.to g) s.one laws.fits-one (closed.enters k r there g h right from some) (omega arith) (omega arith) f.goes in
        let back = comes_back valid laws start edges weight closed k r there g h right from v fits below q a inside in
        let worth = call_value valid laws start edges weight closed k r there g h right run d f in
        let e : s.extend (s.extend v c) (value b) ≡ s.extend v (value (k ∷ run)) = laws.extend_assoc v c (value b) fits fc (fv b) ∙ ap (s.extend v) (sym worth) in
        subst Q e (known b (omega arith) (at_stack q (h ∷ [])) d from (s.extend v c) (laws.fits-extend v c fits fc) back (omega arith) full f.goes_on (λ z. live (sym e ∙ z)) under u is)

    -- a call that stays open
    stays : (g h : ℕ) → r.right ≡ g ∷ h ∷ [] → Stays p r.to (g ∷ []) (h ∷ []) run d → Met (at_stack d.control (d.stack ++ under)) (s.extend u (s.extend v (value (k ∷ run))))
    stays g h right f =
        let w = s.extend (weight (head_of r) from) r.weight in
        let fw = laws.fits-extend (weight (head_of r) from) r.weight (closed.fits (head_of r) from) fr in
        let vr = s.extend v r.weight in
        let fvr = laws.fits-extend v r.weight fits fr in
        let fd = down_fits under from is.deep is.down in
        let worth : value (k ∷ run) ≡ s.extend r.weight (value run) = open_value valid laws k r there g h right run (at_stack r.to (g ∷ [])) (at_stack d.control f.word) f.goes refl f.full in
        let e : s.extend vr (s.extend s.one (value run)) ≡ s.extend v (value (k ∷ run)) =
        ap (s.extend vr) (laws.extend-one_left (value run) (fv run)) ∙ laws.extend_assoc v r.weight (value run) fits fr (fv run) ∙ ap (s.extend v) (sym worth) in
        let live' : s.extend s.one (value run) ≢ s.zero = λ z. live (sym e ∙ ap (s.extend vr) z ∙ laws.extend-zero_right vr fvr) in
        let open_call : IsOpen s p items weight r.to g h from w = record { number = k; rule = r; there = there; right = right; into = refl; worth = refl } in
        let next : IsUnder (h ∷ under) (callee r.to g) (s.extend u vr) = record {
          deep = s.extend is.deep w;
          down = (from, is.deep, w, open_call, is.down, refl);
          fits = laws.fits-extend u vr is.fits fvr;
          below = extend_keeps_below laws is.deep u w vr fd is.fits fw fvr is.below (extend_keeps_below laws (weight (head_of r) from) v r.weight r.weight (closed.fits (head_of r) from) fits fr fr below (below_itself laws r.weight fr));
        } in
        let met = known run short (at_stack r.to (g ∷ [])) (at_stack d.control f.word) (callee r.to g) s.one laws.fits-one (closed.enters k r there g h right from some) (omega arith)
        (λ none. absurd (f.full none)) f.goes live' (h ∷ under) (s.extend u vr) next in
        let one = s.extend s.one (value run) in
        let f1 = laws.fits-extend s.one (value run) laws.fits-one (fv run) in
        let stack : d.stack ++ under ≡ f.word ++ h ∷ under = ap (λ z. z ++ under) f.ends ∙ append_assoc f.word (h ∷ []) under in
        let P : List ℕ → Type 0 = λ z. Met (at_stack d.control z) (s.extend (s.extend u vr) one) in
        let R : W → Type 0 = λ z. Met (at_stack d.control (d.stack ++ under)) z in
        subst R (laws.extend_assoc u vr one is.fits fvr f1 ∙ ap (s.extend u) e) (subst P (sym stack) met)

    by_word : (word : List ℕ) → r.right ≡ word → length word ≤ 2 → Run p (at_stack r.to word) run d → Met (at_stack d.control (d.stack ++ under)) (s.extend u (s.extend v (value (k ∷ run))))
    by_word [] right few goes = stepped [] right (omega arith) goes (pop_worth valid laws start edges weight closed k r there run d right goes)
    by_word (g ∷ []) right few goes = stepped (g ∷ []) right (omega arith) goes (step_value valid laws k r there g right run)
    by_word (g ∷ h ∷ []) right few goes = elim (split p run r.to (g ∷ []) (h ∷ []) d goes) [
      | inl f ↦ returned g h right f
      | inr f ↦ stays g h right f
    ]
    by_word (g ∷ h ∷ i ∷ word) right few goes = absurd (omega arith)

  deep_on : (n : ℕ) → DeepOn n
  deep_on n [] short y d from v fits below one full same live under u is =
      let P : Configuration → Type 0 = λ c. Met (at_stack c.control (c.stack ++ under)) (s.extend u (s.extend v s.one)) in
      let R : Configuration → Type 0 = λ c. c.stack ≡ [] → IsItem from in
      let T : W → Type 0 = Below s (weight y from) in
      let fd = down_fits under from is.deep is.down in
      subst P same (record {
        top = y.stack;
        under = under;
        parts = refl;
        few = one;
        from = from;
        full = subst R (sym same) full;
        deep = is.deep;
        down = is.down;
        below = extend_keeps_below laws is.deep u (weight y from) (s.extend v s.one) fd is.fits (closed.fits y from) (laws.fits-extend v s.one fits laws.fits-one) is.below (subst T (sym (laws.extend-one_right v fits)) below);
      })
  deep_on zero (k ∷ run) short y d from v fits below one full goes live under u is = absurd (omega arith)
  deep_on (suc n) (k ∷ run) short y d from v fits below one full goes live under u is =
      let at = fired p k y goes.0 goes.1 in
      let f = fires_on valid laws start edges weight closed y k goes.0 one at.rule at.rest at.there at.head at.after in
      let r = f.rule in
      let P : Configuration → Type 0 = λ c. Run p c run d in
      let Q : Configuration → Type 0 = λ c. Below s (weight c from) v in
      by_word n (deep_on n) k r f.there run (omega arith) d from v fits (subst Q f.head below) full live under u is r.right refl (rule_at valid k r f.there).fits.short (subst P f.after goes.2)

  -- a run from where the pattern has been read to a state, above what it reads on
  read_on : (word : List ℕ) (q i last : ℕ) (v : W) → Fits s v → Below s (weight (at_stack q []) (item i)) v → Reads edges i word last → IsTrue (is_final_of items last)
      → (run : List ℕ) (d : Configuration) → Run p (at_stack q word) run d → s.extend v (value run) ≢ s.zero → Met d (s.extend v (value run))
  read_on [] q i last v fits below reads final run d goes live =
      let over : run ≡ [] = none_from_nothing p run (at_stack q []) d refl goes in
      let P : List ℕ → Type 0 = λ z. Run p (at_stack q []) z d in
      let same : at_stack q [] ≡ d = subst P over goes in
      let T : W → Type 0 = λ z. Below s z (s.extend v s.one) in
      let U : W → Type 0 = Below s (weight (at_stack q []) (item i)) in
      let here : Met (at_stack q []) (s.extend v s.one) = record {
        top = [];
        under = [];
        parts = refl;
        few = omega arith;
        from = item i;
        full = λ e. tt;
        deep = s.one;
        down = (last, reads, final, refl);
        below = subst T (sym (laws.extend-one_left (weight (at_stack q []) (item i)) (closed.fits (at_stack q []) (item i)))) (subst U (sym (laws.extend-one_right v fits)) below);
      } in
      let R : Configuration → Type 0 = λ c. Met c (s.extend v (value run)) in
      let V : List ℕ → Type 0 = λ z. Met (at_stack q []) (s.extend v (value z)) in
      subst R same (subst V (sym over) here)
  read_on (g ∷ word) q i last v fits below reads final run d goes live =
      let j = reads.0 in
      let fy = closed.fits (at_stack q (g ∷ [])) (item j) in
      let here : Below s (weight (at_stack q (g ∷ [])) (item j)) v =
      below_trans laws (weight (at_stack q (g ∷ [])) (item j)) (weight (at_stack q []) (item i)) v fy (closed.fits (at_stack q []) (item i)) fits (closed.uncovers q i g j reads.1) below in
      elim (split p run q (g ∷ []) word d goes) [
        | inl h ↦
            let f : Falls p q (g ∷ []) word run d = h in
            let a = f.first in
            let b = f.rest in
            let w = s.extend v (value a) in
            let fw = laws.fits-extend v (value a) fits (fv a) in
            let on : Below s (weight (at_stack f.control []) (item j)) w =
            row_goes_on valid laws start edges weight closed a (at_stack q (g ∷ [])) (at_stack f.control []) (item j) v fits here (omega arith) (omega arith) f.goes in
            let e : s.extend w (value b) ≡ s.extend v (value run) =
            laws.extend_assoc v (value a) (value b) fits (fv a) (fv b) ∙ ap (s.extend v) (sym (ap value f.joins ∙ joined_value valid laws a b (at_stack q (g ∷ [])) (at_stack f.control []) f.goes refl)) in
            subst (Met d) e (read_on word f.control j last w fw on reads.2 final b d f.goes_on (λ z. live (sym e ∙ z)))
        | inr h ↦
            let f : Stays p q (g ∷ []) word run d = h in
            let x = at_stack d.control f.word in
            let vr = s.extend v (value run) in
            let met : Met (at_stack d.control (f.word ++ word)) (s.extend s.one vr) =
            deep_on (length run) run (omega arith) (at_stack q (g ∷ [])) x (item j) v fits here (omega arith) (λ none. absurd (f.full none)) f.goes live word s.one
            (record { deep = s.one; down = (last, reads.2, final, refl); fits = laws.fits-one; below = below_itself laws s.one laws.fits-one }) in
            let P : List ℕ → Type 0 = λ z. Met (at_stack d.control z) (s.extend s.one vr) in
            subst (Met d) (laws.extend-one_left vr (laws.fits-extend v (value run) fits (fv run))) (subst P (sym f.ends) met)
      ]

  -- each run from a configuration that the pattern reads is met, if its value is not zero
  pub run_met : (word : List ℕ) (last : ℕ) (run : List ℕ) (d : Configuration) → Reads edges 0 word last → IsTrue (is_final_of items last)
      → Run p (at_stack start word) run d → value run ≢ s.zero → Met d (value run)
  run_met word last run d reads final goes live =
      let e = laws.extend-one_left (value run) (fv run) in
      subst (Met d) e (read_on word start 0 last s.one laws.fits-one closed.starts reads final run d goes (λ z. live (sym e ∙ z)))
