-- Forwards, a path gives a run.
use Rattle.std.proofs.Common.{◌≡◌, ◌⊎◌, inl, inr, ℕ, ◌<◌, ◌≤◌, List, [], ◌∷◌, ◌++◌, map, refl, sym, ap, ap₂, ◌∙◌, subst, append_assoc, arith}
use Rattle.std.specs.Prelude.{Some, slice_get}
use Rattle.std.proofs.lemmas.List.{append-nil}
use Rattle.std.proofs.lemmas.Option.{same_Some}
use Rattle.semiring_laws.specs.Semiring.{Operations, IsSemiring, Fits}
use Rattle.weighted_automata.specs.declared.place.Place.{Place}
use Rattle.weighted_automata.specs.declared.place.Label.TheVariants.{Symbol}
use Rattle.witness_graph.specs.declared.node.Side.TheVariants.{Post}
use Rattle.pushdown_rules.specs.declared.rule.Rule.{Rule}
use Rattle.pushdown_rules.specs.Configuration.{Configuration, at_stack}
use Rattle.pushdown_rules.specs.Pushdown.{Pushdown, IsSystem}
use Rattle.pushdown_rules.specs.Firing.{next_of, Run}
use Rattle.pushdown_rules.specs.Values.{value_of}
use Rattle.pushdown_rules.proofs.CallerLemmas.{fires, run_above, run_then, after_value, value_fits}
use Rattle.wpds_base.specs.Lists.{IsIn}
use Rattle.saturation_laws.specs.declared.opening.Opening.{Opening}
use Rattle.saturation_laws.specs.Paths.{symbols_of, IsPath, EachRun, joined, along, Reads, IsGiven}
use Rattle.direction_parts.specs.Places.{arrow}
use Rattle.direction_parts.proofs.CallerLemmas.{reads_more}
use Rattle.poststar_laws.specs.Reading.{IsMiddle, Comes, Leaves, IsEdge, PostRun}
use Rattle.poststar_laws.proofs.FrameLemmas.{middle_once, middle_high}
use Rattle.poststar_laws.proofs.Weights.{HasItemEdges}

pub nonempty : (word : List ℕ) (g : ℕ) → word ++ g ∷ [] ≡ [] → ⊥
nonempty [] g e = cc
nonempty (h ∷ word) g e = cc

-- Nothing was read yet: the state is the control itself.
pub record IsStart (control : ℕ) (word : List ℕ) (q : ℕ) (run : List ℕ) : Type 0 where
  pub word_is : word ≡ []
  pub control_is : control ≡ q
  pub run_is : run ≡ []

module _ {S W Map : Type 0} {operations : S → Operations W Map} {p : Pushdown S W Map} (valid : IsSystem operations p) (laws : IsSemiring (operations p.semiring))
    (edges : List Place) (base : ℕ) (high : p.controls ≤ base) (items : HasItemEdges p base edges) where
  abbrev s : Operations W Map
  s = operations p.semiring

  abbrev value : List ℕ → W
  value = value_of s p

  abbrev fv : (run : List ℕ) → Fits s (value run)
  fv run = value_fits valid laws run

  abbrev runs : Place → List ℕ → Type 0
  runs = PostRun p edges base

  abbrev Come : ℕ → List ℕ → ℕ → List ℕ → Type 0
  Come = Comes p edges base

  -- what was read from a control so far
  abbrev Led : ℕ → List ℕ → ℕ → List ℕ → Type 0
  Led control word q run = IsStart control word q run ⊎ Come control word q run

  abbrev Longer : ℕ → List ℕ → Place → List ℕ → List ℕ → Type 0
  Longer control word x a b = Come control (word ++ symbols_of x.label) x.to (b ++ a) × (value (b ++ a) ≡ s.extend (value b) (value a))

  -- runs come to items and middle states
  pub comes_high : (control : ℕ) (word : List ℕ) (q : ℕ) (a : List ℕ) → Come control word q a → p.controls ≤ q
  comes_high control word q a (inl is) = is.item
  comes_high control word q a (inr call) = let h = middle_high p base q call.number call.push in omega (arith, h, high)

  from_control : (control : ℕ) (word : List ℕ) (q : ℕ) (a : List ℕ) (x : Place) (b : List ℕ) → x.from ≡ q → Led control word q a → x.from < p.controls → Come x.from (symbols_of x.label) x.to b → Longer control word x a b
  from_control control word q a x b at (inr come) low comes = let h = comes_high control word q a come in absurd (omega (arith, at, low, h))
  from_control control word q a x b at (inl is) low comes =
      let here : x.from ≡ control = at ∙ sym is.control_is in
      let P₁ : ℕ → Type 0 = λ n. Come n (symbols_of x.label) x.to b in
      let P₂ : List ℕ → Type 0 = λ w. Come control (w ++ symbols_of x.label) x.to b in
      let P₃ : List ℕ → Type 0 = λ r. Come control (word ++ symbols_of x.label) x.to r in
      let same : b ++ a ≡ b = ap (λ r. b ++ r) is.run_is ∙ append-nil b in
      (subst P₃ (sym same) (subst P₂ (sym is.word_is) (subst P₁ here comes)), ap value same ∙ sym (laws.extend-one_right (value b) (fv b)) ∙ ap (λ r. s.extend (value b) (value r)) (sym is.run_is))

  -- an opening edge more
  from_item : (control : ℕ) → control < p.controls → (word : List ℕ) (q : ℕ) (a : List ℕ) (x : Place) (b : List ℕ) → x.from ≡ q → Led control word q a → IsEdge p edges base x b → Longer control word x a b
  from_item control low word q a x b at (inl is) edge = let here = is.control_is in let item = edge.item in absurd (omega (arith, at, low, here, item))
  from_item control low word q a x b at (inr (inr call)) edge = let h = middle_high p base q call.number call.push in let last = edge.last in absurd (omega (arith, at, h, last))
  from_item control low word q a x b at (inr (inl is)) edge =
      let reads = items.symbols x edge.edge in
      let g = reads.0 in
      let label : x.label ≡ Symbol g = reads.1 in
      let same : x ≡ arrow q g x.to = ap₂ (λ n l. let z : Place = record { from = n; label = l; to = x.to } in z) at label in
      let P : Place → Type 0 = λ z. IsIn z edges in
      let words : g ∷ [] ≡ symbols_of x.label = ap symbols_of (sym label) in
      let P₂ : List ℕ → Type 0 = λ w. Come control (word ++ w) x.to a in
      let P₃ : List ℕ → Type 0 = λ r. Come control (word ++ symbols_of x.label) x.to (r ++ a) in
      let longer : Come control (word ++ g ∷ []) x.to a = inl (record {
        item = items.items x edge.edge;
        last = items.last x edge.edge;
        from = at_stack is.from.control (is.from.stack ++ g ∷ []);
        low = is.low;
        reads = reads_more edges is.from.control is.from.stack q g x.to is.reads (subst P same edge.edge);
        goes = run_above p (g ∷ []) a is.from (at_stack control word) is.goes;
      }) in
      (subst P₃ (sym edge.empty) (subst P₂ words longer), ap (λ r. value (r ++ a)) edge.empty ∙ sym (laws.extend-one_left (value a) (fv a)) ∙ ap (λ r. s.extend (value r) (value a)) (sym edge.empty))

  -- the symbol that a call left
  from_middle : (control : ℕ) → control < p.controls → (word : List ℕ) (q : ℕ) (a : List ℕ) (x : Place) (b : List ℕ) → x.from ≡ q → Led control word q a → Leaves p edges base x b → Longer control word x a b
  from_middle control low word q a x b at (inl is) leaves =
      let h = middle_high p base x.from leaves.number leaves.push in let here = is.control_is in absurd (omega (arith, at, low, here, h, high))
  from_middle control low word q a x b at (inr (inl is)) leaves =
      let h = middle_high p base x.from leaves.number leaves.push in let last = is.last in absurd (omega (arith, at, h, last))
  from_middle control low word q a x b at (inr (inr call)) leaves =
      let k = call.number in
      let r = call.push.rule in
      let other : IsMiddle p base q leaves.number = let P : ℕ → Type 0 = λ n. IsMiddle p base n leaves.number in subst P at leaves.push in
      let number : k ≡ leaves.number = middle_once p base q k leaves.number call.push other in
      let rule : r ≡ leaves.push.rule = same_Some r leaves.push.rule (sym call.push.there ∙ ap (slice_get p.rules) number ∙ leaves.push.there) in
      let right : call.push.callee ∷ call.push.waits ∷ [] ≡ leaves.push.callee ∷ leaves.push.waits ∷ [] = sym call.push.right ∙ ap (λ (u : Rule S W Map). u.right) rule ∙ leaves.push.right in
      let waits : call.push.waits ≡ leaves.push.waits = cc in
      let g = call.push.waits in
      let label : x.label ≡ Symbol g = leaves.label ∙ ap Symbol (sym waits) in
      let comes : Come r.control (r.symbol ∷ []) x.to b = let P : Rule S W Map → Type 0 = λ u. Come u.control (u.symbol ∷ []) x.to b in subst P (sym rule) leaves.comes in
      -- the call, from its head to where it has come
      let first : next_of p k (at_stack r.control (r.symbol ∷ [])) ≡ Some (at_stack r.to (call.push.callee ∷ g ∷ [])) =
      fires p k r call.push.there [] ∙ ap (λ w. Some (at_stack r.to w)) (append-nil r.right ∙ call.push.right) in
      let through : Run p (at_stack r.to (call.push.callee ∷ g ∷ [])) call.rest (at_stack control (word ++ g ∷ [])) = run_above p (g ∷ []) call.rest (at_stack r.to (call.push.callee ∷ [])) (at_stack control word) call.goes in
      let whole : Run p (at_stack r.control (r.symbol ∷ [])) (k ∷ call.rest) (at_stack control (word ++ g ∷ [])) = (at_stack r.to (call.push.callee ∷ g ∷ []), first, through) in
      let Q : List ℕ → Type 0 = λ z. Run p (at_stack r.control (r.symbol ∷ [])) z (at_stack control (word ++ g ∷ [])) in
      let called : Run p (at_stack r.control (r.symbol ∷ [])) a (at_stack control (word ++ g ∷ [])) = subst Q (sym call.starts) whole in
      let full : word ++ g ∷ [] ≡ [] → ⊥ = λ e. nonempty word g e in
      let longer : Come control (word ++ g ∷ []) x.to (b ++ a) = elim comes [
        | inl is ↦ inl (record {
          item = is.item;
          last = is.last;
          from = is.from;
          low = is.low;
          reads = is.reads;
          goes = run_then p b a is.from (at_stack r.control (r.symbol ∷ [])) (at_stack control (word ++ g ∷ [])) is.goes called;
        })
        | inr is ↦ inr (record {
          number = is.number;
          push = is.push;
          rest = is.rest ++ a;
          starts = ap (λ z. z ++ a) is.starts;
          goes = run_then p is.rest a (at_stack is.push.rule.to (is.push.callee ∷ [])) (at_stack r.control (r.symbol ∷ [])) (at_stack control (word ++ g ∷ [])) is.goes called;
        })
      ] in
      let P₂ : List ℕ → Type 0 = λ w. Come control (word ++ w) x.to (b ++ a) in
      (subst P₂ (ap symbols_of (sym label)) longer, after_value valid laws b a (at_stack r.control (r.symbol ∷ [])) (at_stack control (word ++ g ∷ [])) called refl full)

  -- one place more
  pub place_more : (control : ℕ) → control < p.controls → (word : List ℕ) (q : ℕ) (a : List ℕ) (x : Place) (b : List ℕ) → x.from ≡ q → Led control word q a → runs x b → Longer control word x a b
  place_more control low word q a x b at led (inl is) = from_control control word q a x b at led is.0 is.1
  place_more control low word q a x b at led (inr (inl edge)) = from_item control low word q a x b at led edge
  place_more control low word q a x b at led (inr (inr leaves)) = from_middle control low word q a x b at led leaves

  values_fit : (rs : List (List ℕ)) → Fits s (along s Post (map value rs))
  values_fit [] = laws.fits-one
  values_fit (r ∷ rs) = laws.fits-extend (along s Post (map value rs)) (value r) (values_fit rs) (fv r)

  abbrev All : ℕ → List ℕ → ℕ → List ℕ → List (List ℕ) → Type 0
  All control word to a rs = Led control word to (joined Post rs ++ a) × (value (joined Post rs ++ a) ≡ s.extend (along s Post (map value rs)) (value a))

  path_gives : (control : ℕ) → control < p.controls → (xs : List Place) (rs : List (List ℕ)) (done : List ℕ) (q : ℕ) (a : List ℕ) → Led control done q a
      → (word : List ℕ) (to : ℕ) → IsPath xs q word to → EachRun runs xs rs → All control (done ++ word) to a rs
  path_gives control low [] [] done q a led word to path each =
      let P : ℕ → Type 0 = λ n. Led control done n a in
      let Q : List ℕ → Type 0 = λ w. Led control w to a in
      let words : done ≡ done ++ word = sym (append-nil done) ∙ ap (λ w. done ++ w) (sym path.0) in
      (subst Q words (subst P path.1 led), sym (laws.extend-one_left (value a) (fv a)))
  path_gives control low [] (r ∷ rs) done q a led word to path each = absurd each
  path_gives control low (x ∷ xs) [] done q a led word to path each = absurd each
  path_gives control low (x ∷ xs) (r ∷ rs) done q a led word to path each =
      let one = place_more control low done q a x r path.1 led each.0 in
      let more = path_gives control low xs rs (done ++ symbols_of x.label) x.to (r ++ a) (inr one.0) path.0 to path.3 each.1 in
      let words : (done ++ symbols_of x.label) ++ path.0 ≡ done ++ word = append_assoc done (symbols_of x.label) path.0 ∙ ap (λ w. done ++ w) (sym path.2) in
      let all : joined Post rs ++ (r ++ a) ≡ (joined Post rs ++ r) ++ a = sym (append_assoc (joined Post rs) r a) in
      let v = along s Post (map value rs) in
      let P : List ℕ → Type 0 = λ w. Led control w to (joined Post rs ++ (r ++ a)) in
      let Q : List ℕ → Type 0 = λ z. Led control (done ++ word) to z in
      (subst Q all (subst P words more.0), ap value (sym all) ∙ more.1 ∙ ap (s.extend v) one.1 ∙ sym (laws.extend_assoc v (value r) (value a) (values_fit rs) (fv r) (fv a)))

  -- a path from a control gives a run
  pub post_gives : (o : Opening) → o.edges ≡ edges → ((q : ℕ) → IsIn q o.finals → q < base) → (c : Configuration) (xs : List Place) (rs : List (List ℕ)) (to : ℕ) → c.control < p.controls → IsPath xs c.control c.stack to
      → EachRun runs xs rs → IsGiven s value Post p o c to rs
  post_gives o same finals c xs rs to low path each =
      let begin : Led c.control [] c.control [] = inl (record { word_is = refl; control_is = refl; run_is = refl }) in
      let all = path_gives c.control low xs rs [] c.control [] begin c.stack to path each in
      let run = joined Post rs in
      let P : List ℕ → Type 0 = λ z. Led c.control c.stack to z in
      let led = subst P (append-nil run) all.0 in
      record {
        value_is = ap value (sym (append-nil run)) ∙ all.1 ∙ laws.extend-one_right (along s Post (map value rs)) (values_fit rs);
        run = λ final.
            let item : to < base = finals to final in
            elim led [
              | inl start ↦
                  let none : c ≡ at_stack to [] = ap₂ at_stack start.control_is start.word_is in
                  let Q : Configuration → Type 0 = λ d. d.control < p.controls in
                  let R : List ℕ → Type 0 = λ z. Run p (at_stack to []) z c in
                  (at_stack to [], subst Q none low, (to, refl, final), subst R (sym start.run_is) (sym none))
              | inr come ↦ elim come [
                | inl is ↦ let R : List Place → Type 0 = λ es. Reads es is.from.control is.from.stack to in (is.from, is.low, (to, subst R (sym same) is.reads, final), is.goes)
                | inr call ↦ let h = middle_high p base to call.number call.push in absurd (omega (arith, h, item))
              ]
            ];
      }
