-- A call and an end of its callee.
use Rattle.std.proofs.Common.{◌≡◌, ◌⊎◌, inl, inr, ℕ, ◌<◌, ◌≤◌, List, [], ◌∷◌, length, refl, sym, ap, ◌∙◌, subst, arith}
use Rattle.std.specs.Prelude.{Some, slice_get, unwrap_or}
use Rattle.std.proofs.lemmas.Option.{same_Some}
use Rattle.semiring_laws.specs.Semiring.{Operations, IsSemiring, Fits, Below}
use Rattle.semiring_laws.proofs.CallerLemmas.{below_zero}
use Rattle.weighted_automata.specs.declared.place.Label.TheVariants.{Symbol, Empty}
use Rattle.weighted_automata.specs.declared.place.Place.{Place}
use Rattle.pushdown_rules.specs.declared.rule.Rule.{Rule}
use Rattle.pushdown_rules.specs.Pushdown.{Pushdown, IsSystem}
use Rattle.pushdown_rules.proofs.CallerLemmas.{weight_fits}
use Rattle.config_patterns.specs.Edges.{edges_of}
use Rattle.config_patterns.specs.Membership.{PatternValue}
use Rattle.weight_tables.specs.Entries.{TableEntry}
use Rattle.weight_tables.specs.Tables.{TablesValue, with_hand}
use Rattle.weight_tables.proofs.CallerLemmas.{settled_or_none}
use Rattle.forward_value_laws.specs.Model.{callee}
use Rattle.forward_value_laws.specs.Settling.{call_weight}
use Rattle.forward_value_search.specs.Places.{arrow, short_label, number_of}
use Rattle.forward_value_search.specs.Settled.{head_at}
use Rattle.forward_value_search.specs.Search.{StandsAt, HasSums, weights, settled, IsReady, IsOnward, HasGiven, IsCall, HasMet, IsReturn, HoldsReturn, HasReturned}
use Rattle.forward_value_search.proofs.SettledLemmas.{call_fits, call_zero, return_kept, rule_kept}
use Rattle.forward_value_search.proofs.SumLemmas.{return_at}
use Rattle.forward_value_search.proofs.OnwardLemmas.{weights_fit, counting_fit, given_counts, counts_later, at_system, of_system, entry_weight, onward_is, onward_then}

-- What loops go through, by tables: the ends that a call has met, the calls that an end has met, what rules gave to a number, and which rules have returned.
module _ {S W Map : Type 0} (operations : S → Operations W Map) (p : Pushdown S W Map) (first : PatternValue) where
  abbrev pub EndsMet : ℕ → ℕ → Place → TablesValue S W Map → Place → Type 0
  EndsMet k below x v y = HasMet operations p first v k below x y

  abbrev pub CallsMet : ℕ → ℕ → Place → TablesValue S W Map → Place → Type 0
  CallsMet k below y v x = HasMet operations p first v k below x y

  abbrev pub RulesGave : ℕ → TablesValue S W Map → ℕ → Rule S W Map → Type 0
  RulesGave n v k r = HasGiven operations p first v r n

  abbrev pub RulesReturned : Place → TablesValue S W Map → ℕ → Rule S W Map → Type 0
  RulesReturned x v k r = HasReturned operations p first v k x

-- the rule of a number is one
pub for_rule : {S W Map : Type 0} (rules : List (Rule S W Map)) (k : ℕ) (r : Rule S W Map) → slice_get rules k ≡ Some r → (P : Rule S W Map → Type 0) → P r → (q : Rule S W Map) → slice_get rules k ≡ Some q → P q
for_rule rules k r there P is q there' = subst P (same_Some r q (sym there ∙ there')) is

module _ {S W Map : Type 0} {operations : S → Operations W Map} {p : Pushdown S W Map} (valid : IsSystem operations p) (laws : IsSemiring (operations p.semiring)) (first : PatternValue) where
  abbrev s : Operations W Map
  s = operations p.semiring

  abbrev Ready : TablesValue S W Map → Type 0
  Ready v = IsReady operations p first v

  abbrev Onward : TablesValue S W Map → TablesValue S W Map → Type 0
  Onward old new = IsOnward operations p first old new

  abbrev weight : TablesValue S W Map → Place → W
  weight v = weights operations p first v

  abbrev counting : TablesValue S W Map → Place → W
  counting v = settled operations p first v

  abbrev Met : TablesValue S W Map → ℕ → ℕ → Place → Place → Type 0
  Met v k below x y = HasMet operations p first v k below x y

  -- a rule of the system is one of the tables'
  pub rule_within : (v one : TablesValue S W Map) → Ready v → one.system ≡ v.system → (k : ℕ) → k < length p.rules → k < length one.system.rules
  rule_within v one ready same k low = let P : Pushdown S W Map → Type 0 = λ q. k < length q.rules in subst P (sym (same ∙ ready.system)) low

  -- what is in hand once a rule was put before an end, and its return map met
  pub held_return : (v one two : TablesValue S W Map) → Ready v → (r : Rule S W Map) (e : W) → one ≡ with_hand ((operations v.system.semiring).extend r.weight e) v
      → two ≡ with_hand ((operations one.system.semiring).after (unwrap_or r.map (operations one.system.semiring).plain) one.hand) one → two ≡ with_hand (call_weight s r e) v
  held_return v one two ready r e is then =
      let P : TablesValue S W Map → Type 0 = λ z. two ≡ with_hand ((operations z.system.semiring).after (unwrap_or r.map (operations z.system.semiring).plain) z.hand) z in
      at_system valid laws first v ready (λ q. two ≡ with_hand ((operations q.semiring).after (unwrap_or r.map (operations q.semiring).plain) ((operations q.semiring).extend r.weight e)) v) (subst P is then)

  -- the same, as the tables say it
  pub returned_hand : (v one two : TablesValue S W Map) → Ready v → (k : ℕ) (r : Rule S W Map) → slice_get p.rules k ≡ Some r → (t : ℕ) (y : Place) → StandsAt t y v.base
      → ((q : Rule S W Map) → slice_get v.system.rules k ≡ Some q → (e : TableEntry W) → slice_get v.base t ≡ Some e → one ≡ with_hand ((operations v.system.semiring).extend q.weight e.weight) v)
      → ((q : Rule S W Map) → slice_get one.system.rules k ≡ Some q → two ≡ with_hand ((operations one.system.semiring).after (unwrap_or q.map (operations one.system.semiring).plain) one.hand) one)
      → two ≡ with_hand (call_weight s r (weight v y)) v
  returned_hand v one two ready k r there t y at is then =
      let there_v = of_system valid laws first v ready (λ q. slice_get q.rules k ≡ Some r) there in
      let held = is r there_v at.0 at.1 in
      let there_one : slice_get one.system.rules k ≡ Some r = ap (λ (z : TablesValue S W Map). slice_get z.system.rules k) held ∙ there_v in
      held_return v one two ready r at.0.weight held (then r there_one)
      ∙ ap (λ u. with_hand (call_weight s r u) v) (entry_weight valid laws first v ready t y at.0 at.1 at.2)

  module _ (k : ℕ) (r : Rule S W Map) (there : slice_get p.rules k ≡ Some r) (a b : ℕ) (right : r.right ≡ a ∷ b ∷ []) where
    fits_call : (w : W) → Fits s w → Fits s (call_weight s r w)
    fits_call w fw = call_fits valid laws k r there a b right w fw

    -- an end that counts for nothing, and a call that does, have met
    pub end_counts_nothing : (v : TablesValue S W Map) → Ready v → (x y : Place) → counting v y ≡ s.zero → Met v k b x y
    end_counts_nothing v ready x y none =
        let goal = weight v (arrow y.from (Symbol b) x.to) in
        let dead : s.extend (counting v x) (call_weight s r (counting v y)) ≡ s.zero =
        ap (λ u. s.extend (counting v x) (call_weight s r u)) none ∙ ap (s.extend (counting v x)) (call_zero valid laws k r there a b right)
        ∙ laws.extend-zero_right (counting v x) (counting_fit valid laws first v ready x) in
        let P : W → Type 0 = Below s goal in
        for_rule p.rules k r there (λ q. Below s goal (s.extend (counting v x) (call_weight s q (counting v y)))) (subst P (sym dead) (below_zero laws goal (weights_fit valid laws first v ready (arrow y.from (Symbol b) x.to))))

    pub call_counts_nothing : (v : TablesValue S W Map) → Ready v → (x y : Place) → counting v x ≡ s.zero → Met v k b x y
    call_counts_nothing v ready x y none =
        let goal = weight v (arrow y.from (Symbol b) x.to) in
        let call = call_weight s r (counting v y) in
        let dead : s.extend (counting v x) call ≡ s.zero = ap (λ u. s.extend u call) none ∙ laws.extend-zero_left call (fits_call (counting v y) (counting_fit valid laws first v ready y)) in
        let P : W → Type 0 = Below s goal in
        for_rule p.rules k r there (λ q. Below s goal (s.extend (counting v x) (call_weight s q (counting v y)))) (subst P (sym dead) (below_zero laws goal (weights_fit valid laws first v ready (arrow y.from (Symbol b) x.to))))

    -- what met has met still
    pub met_later : (v new : TablesValue S W Map) → Ready v → Onward v new → (x y : Place) → Met v k b x y → Met new k b x y
    met_later v new ready onward x y met =
        let goal = arrow y.from (Symbol b) x.to in
        for_rule p.rules k r there (λ q. Below s (weight new goal) (s.extend (counting new x) (call_weight s q (counting new y))))
        (return_kept valid laws (length first.items) first.control (edges_of first.items) (weight v) (counting v) (weight new) (counting new) (weights_fit valid laws first v ready) (counting_fit valid laws first v ready)
        (weights_fit valid laws first new onward.ready) (counting_fit valid laws first new onward.ready) onward.further.falls k r there a b right goal x y (onward.further.counts x) (onward.further.counts y) (met r there))

    -- a goal that lies below what a call and a weight that its end had, or nothing, make
    met_by : (new : TablesValue S W Map) → Ready new → (x y : Place) (u : W) → (counting new y ≡ u) ⊎ (counting new y ≡ s.zero)
        → Below s (weight new (arrow y.from (Symbol b) x.to)) (s.extend (counting new x) (call_weight s r u)) → Met new k b x y
    met_by new ready x y u end below = elim end [
      | inl same ↦
          let P : W → Type 0 = λ w. Below s (weight new (arrow y.from (Symbol b) x.to)) (s.extend (counting new x) (call_weight s r w)) in
          for_rule p.rules k r there (λ q. Below s (weight new (arrow y.from (Symbol b) x.to)) (s.extend (counting new x) (call_weight s q (counting new y)))) (subst P (sym same) below)
      | inr none ↦ end_counts_nothing new ready x y none
    ]

    -- a call that was given the worth of an end has met it
    pub met_now : (v new : TablesValue S W Map) → Ready v → Onward v new → (x y : Place) (u w : W) → Fits s u → w ≡ call_weight s r u → (counting new y ≡ u) ⊎ (counting new y ≡ s.zero)
        → Below s (weight new (arrow y.from (Symbol b) x.to)) (s.extend (weight v x) w) → Met new k b x y
    met_now v new ready onward x y u w fu is end below =
        let goal = arrow y.from (Symbol b) x.to in
        let call = call_weight s r u in
        let P : W → Type 0 = λ z. Below s (weight new goal) (s.extend (weight v x) z) in
        met_by new onward.ready x y u end
        (given_counts valid laws first v new onward goal x (λ z. s.extend z call) (laws.extend-zero_left call (fits_call u fu)) (subst P is below))

    -- sums at the goal
    pub met_sums : (number : ℕ) → number_of (length first.items) p (callee r.to a) ≡ Some number → (x y : Place) → x ≡ head_at r x.to → y ≡ arrow y.from Empty number → (v u : W)
        → HasSums operations p first x v → HasSums operations p first y u → HasSums operations p first (arrow y.from (Symbol b) x.to) (s.extend v (call_weight s r u))
    met_sums number is x y head end v u above below =
        let P : Place → Type 0 = λ z. HasSums operations p first z v in
        let Q : Place → Type 0 = λ z. HasSums operations p first z u in
        return_at valid laws (length first.items) first.control (edges_of first.items) k r there a b right y.from x.to number is v u (subst P head above) (subst Q end below)

    -- what a push rule gives
    pub call_gives : (v : TablesValue S W Map) (n number : ℕ) → number_of (length first.items) p (callee r.to a) ≡ Some number → Below s (weight v (arrow r.to (Symbol a) number)) s.one
        → ((q : ℕ) → Met v k b (head_at r n) (arrow q Empty number)) → HasGiven operations p first v r n
    call_gives v n number is entered met =
        let same_top : (c d : ℕ) → r.right ≡ c ∷ d ∷ [] → a ≡ c = λ c d e. let words : a ∷ b ∷ [] ≡ c ∷ d ∷ [] = sym right ∙ e in cc in
        let same_below : (c d : ℕ) → r.right ≡ c ∷ d ∷ [] → b ≡ d = λ c d e. let words : a ∷ b ∷ [] ≡ c ∷ d ∷ [] = sym right ∙ e in cc in
        let same_number : (c d m : ℕ) → r.right ≡ c ∷ d ∷ [] → number_of (length first.items) p (callee r.to c) ≡ Some m → number ≡ m =
        λ c d m e f. same_Some number m (sym is ∙ ap (λ g. number_of (length first.items) p (callee r.to g)) (same_top c d e) ∙ f) in
        record {
          steps = λ few. let long : length r.right ≡ 2 = ap length right in absurd (omega (arith, long, few));
          enters = λ c d e m f some.
              let P : ℕ → Type 0 = λ g. Below s (weight v (arrow r.to (Symbol g) m)) s.one in
              let Q : ℕ → Type 0 = λ i. Below s (weight v (arrow r.to (Symbol a) i)) s.one in
              subst P (same_top c d e) (subst Q (same_number c d m e f) entered);
          returns = λ c d e m f q.
              let P : ℕ → Type 0 = λ g. Below s (weight v (arrow q (Symbol g) n)) (s.extend (counting v (head_at r n)) (call_weight s r (counting v (arrow q Empty m)))) in
              let Q : ℕ → Type 0 = λ i. Below s (weight v (arrow q (Symbol b) n)) (s.extend (counting v (head_at r n)) (call_weight s r (counting v (arrow q Empty i)))) in
              subst P (same_below c d e) (subst Q (same_number c d m e f) (met q r there));
        }

  module _ (k : ℕ) (r : Rule S W Map) (there : slice_get p.rules k ≡ Some r) where
    -- what a rule with at most one symbol gives
    pub step_gives : (v new : TablesValue S W Map) → Onward v new → length r.right ≤ 1 → (n : ℕ) → Below s (weight new (arrow r.to (short_label r.right) n)) (s.extend (weight v (head_at r n)) r.weight)
        → HasGiven operations p first new r n
    step_gives v new onward few n below =
        let one : (a b : ℕ) → r.right ≡ a ∷ b ∷ [] → ⊥ = λ a b e. let long : length r.right ≡ 2 = ap length e in absurd (omega (arith, long, few)) in
        record {
          steps = λ _. given_counts valid laws first v new onward (arrow r.to (short_label r.right) n) (head_at r n) (λ z. s.extend z r.weight) (laws.extend-zero_left r.weight (weight_fits valid laws k r there)) below;
          enters = λ a b right. absurd (one a b right);
          returns = λ a b right. absurd (one a b right);
        }

    -- what a rule gave is there still
    pub given_later : (v new : TablesValue S W Map) → Ready v → Onward v new → (n : ℕ) → HasGiven operations p first v r n → HasGiven operations p first new r n
    given_later v new ready onward n gives =
        rule_kept valid laws (length first.items) first.control (edges_of first.items) (weight v) (counting v) (weight new) (counting new) (weights_fit valid laws first v ready) (counting_fit valid laws first v ready)
        (weights_fit valid laws first new onward.ready) (counting_fit valid laws first new onward.ready) onward.further.falls k r there n (onward.further.counts (head_at r n)) (λ q m. onward.further.counts (arrow q Empty m)) gives

  -- the hand holds what a rule makes of an end, still
  pub worth_counts : (v new : TablesValue S W Map) → Onward v new → (k : ℕ) (x : Place) (is : HoldsReturn operations p first v k x) → (counting new x ≡ is.worth) ⊎ (counting new x ≡ s.zero)
  worth_counts v new onward k x is = elim (onward.further.counts x) [
    | inl equal ↦ elim is.counts [ inl now ↦ inl (equal ∙ now) | inr none ↦ inr (equal ∙ none) ]
    | inr none ↦ inr none
  ]

  pub holds_later : (v new : TablesValue S W Map) → Onward v new → new.hand ≡ v.hand → (k : ℕ) (x : Place) → HoldsReturn operations p first v k x → HoldsReturn operations p first new k x
  holds_later v new onward same k x is = record {
    worth = is.worth;
    fits = is.fits;
    sums = is.sums;
    counts = worth_counts v new onward k x is;
    held = λ r there. same ∙ is.held r there;
  }

  pub holds_now : (v new : TablesValue S W Map) → Ready v → (k : ℕ) (r : Rule S W Map) → slice_get p.rules k ≡ Some r → (x : Place) → new ≡ with_hand (call_weight s r (weight v x)) v
      → HoldsReturn operations p first new k x
  holds_now v new ready k r there x is =
      let P : TablesValue S W Map → Type 0 = λ z. HoldsReturn operations p first z k x in
      subst P (sym is) (record {
        worth = weight v x;
        fits = weights_fit valid laws first v ready x;
        sums = ready.sums x;
        counts = settled_or_none s x v.base;
        held = λ q there'. for_rule p.rules k r there (λ z. call_weight s r (weight v x) ≡ call_weight s z (weight v x)) refl q there';
      })

  pub return_onward : (v two : TablesValue S W Map) → Ready v → (k : ℕ) (r : Rule S W Map) → slice_get p.rules k ≡ Some r → (a b : ℕ) → r.right ≡ a ∷ b ∷ [] → (x : Place)
      → two ≡ with_hand (call_weight s r (weight v x)) v → Onward v two
  return_onward v two ready k r there a b right x is =
      onward_is valid laws first v two ready (call_weight s r (weight v x)) (call_fits valid laws k r there a b right (weight v x) (weights_fit valid laws first v ready x)) is

  -- A call that meets an end, which it was put before in hand.
  module _ (v two : TablesValue S W Map) (ready : Ready v) (k below number : ℕ) (x : Place) (call : IsCall operations p first k below number x) (from t : ℕ) (row : StandsAt t x v.base)
      (is : two ≡ with_hand (call_weight s call.rule (weight v (arrow from Empty number))) v) where
    abbrev end : Place
    end = arrow from Empty number

    abbrev goal : Place
    goal = arrow from (Symbol below) x.to

    fits_it : Fits s (call_weight s call.rule (weight v end))
    fits_it = call_fits valid laws k call.rule call.there call.top below call.right (weight v end) (weights_fit valid laws first v ready end)

    pub end_onward : Onward v two
    end_onward = onward_is valid laws first v two ready (call_weight s call.rule (weight v end)) fits_it is

    pub end_row : StandsAt t x two.base
    end_row = end_onward.numbers t x row

    pub end_sums : HasSums operations p first goal (s.extend (weight two x) two.hand)
    end_sums =
        let P : TablesValue S W Map → Type 0 = λ z. HasSums operations p first goal (s.extend (weight z x) z.hand) in
        subst P (sym is) (met_sums k call.rule call.there call.top below call.right number call.entered x end call.head refl (weight v x) (weight v end) (ready.sums x) (ready.sums end))

    module _ (new : TablesValue S W Map) (onward : Onward two new) (given : Below s (weight new goal) (s.extend (weight two x) two.hand)) where
      pub end_then : Onward v new
      end_then = onward_then valid laws first v two new ready end_onward onward

      pub end_met : Met new k below x end
      end_met =
          let P : TablesValue S W Map → Type 0 = λ z. Below s (weight new goal) (s.extend (weight z x) z.hand) in
          met_now k call.rule call.there call.top below call.right v new ready end_then x end (weight v end) (call_weight s call.rule (weight v end)) (weights_fit valid laws first v ready end) refl
          (counts_later valid laws first v new end_then end) (subst P is given)

  -- An end, whose call's worth is in hand, that meets a call.
  module _ (v : TablesValue S W Map) (ready : Ready v) (k below : ℕ) (end : Place) (return : IsReturn operations p first k below end) (holds : HoldsReturn operations p first v k end)
      (row : Place) (head : (r : Rule S W Map) → slice_get p.rules k ≡ Some r → row ≡ head_at r row.to) where
    abbrev next : Place
    next = arrow end.from (Symbol below) row.to

    pub call_sums : HasSums operations p first next (s.extend (weight v row) v.hand)
    call_sums =
        let r = return.rule in
        let whole : end ≡ arrow end.from Empty end.to = ap (λ l. arrow end.from l end.to) return.empty in
        let P : W → Type 0 = λ u. HasSums operations p first next (s.extend (weight v row) u) in
        subst P (sym (holds.held r return.there))
        (met_sums k r return.there return.top below return.right end.to return.entered row end (head r return.there) whole (weight v row) holds.worth (ready.sums row) holds.sums)

    pub call_met : (new : TablesValue S W Map) → Onward v new → new.hand ≡ v.hand → Below s (weight new next) (s.extend (weight v row) v.hand) → Met new k below row end
    call_met new onward same given =
        let r = return.rule in
        met_now k r return.there return.top below return.right v new ready onward row end holds.worth v.hand holds.fits (holds.held r return.there)
        (worth_counts v new onward k end holds) given
