-- The order of a canonical list, and that the list is decided by its meaning.
use Rattle.std.proofs.Common.{◌≡◌, ℕ, zero, suc, ◌+◌, ◌<◌, ◌≤◌, Bool, true, false, List, [], ◌∷◌, length, refl, sym, ap, ap₂, ◌∙◌, subst, inl, inr, arith}
use Rattle.std.specs.Prelude.{Option, None, Some, nat_eq, nat_lt, cond, option_and_then, slice_get}
use Rattle.std.proofs.lemmas.Bool.{cases_lt, cases_eq, cond-true, cond-false, eq-eqb, eqb-true, lt-ltb, ltb-true, false_from_ne_true}
use Rattle.std.proofs.lemmas.Option.{same_Some}
use Rattle.diagram_store.specs.declared.branch.Branch.{Branch}
use Rattle.diagram_store.specs.Nodes.{node_at, IsReduced, HasVariablesBelow}
use Rattle.diagram_store.specs.Meaning.{value_at, set_bit}
use Rattle.diagram_store.specs.private.Turns.{in_turn, leave, turn_after, IsTurned}
use Rattle.diagram_store.proofs.NodeLemmas.{option_cases, node_within, node_there, no_node, one_node}
use Rattle.diagram_store.proofs.ValueLemmas.{value_agrees, value_at_end, value_at_node, same_cond, set_other}
use Rattle.diagram_store.proofs.MeaningLemmas.{Same, from_parts, branches_within, low_value, high_value, one_value, same_low, same_high, one_reference, branches_apart, same_is_node}

not_below : (r turn : ℕ) → turn ≤ r → nat_lt r turn ≡ false
not_below r turn h = false_from_ne_true (nat_lt r turn) (λ e. let f : r < turn = ltb-true r turn e in absurd (omega arith))

pub turn_below : (nodes : List Branch) (d turn r : ℕ) → r < turn → turn_after nodes d turn r ≡ Some turn
unfolding turn_after
turn_below nodes zero turn r h = cond-true (nat_lt r turn) (Some turn) None (lt-ltb r turn h)
turn_below nodes (suc d) turn r h = cond-true (nat_lt r turn) (Some turn) (leave (turn_after nodes d) turn r (node_at nodes r)) (lt-ltb r turn h)

turn_none : (nodes : List Branch) (turn r : ℕ) → turn ≤ r → turn_after nodes zero turn r ≡ None
unfolding turn_after
turn_none nodes turn r h = cond-false (nat_lt r turn) (Some turn) None (not_below r turn h)

turn_leave : (nodes : List Branch) (d turn r : ℕ) → turn ≤ r → turn_after nodes (suc d) turn r ≡ leave (turn_after nodes d) turn r (node_at nodes r)
unfolding turn_after
turn_leave nodes d turn r h = cond-false (nat_lt r turn) (Some turn) (leave (turn_after nodes d) turn r (node_at nodes r)) (not_below r turn h)

-- the walk leaves a node after both its branches
pub record Leaves (nodes : List Branch) (d turn r t : ℕ) : Type 0 where
  pub node : Branch
  pub there : node_at nodes r ≡ Some node
  pub middle : ℕ
  pub low : turn_after nodes d turn node.low ≡ Some middle
  pub high : turn_after nodes d middle node.high ≡ Some r
  pub ends : t ≡ r + 1

turned : (r turn t : ℕ) → in_turn r turn ≡ Some t → (turn ≡ r) × (t ≡ r + 1)
turned r turn t e = elim (cases_eq r turn) [
  | inl is ↦
      let f : turn + 1 ≡ t = same_Some (turn + 1) t (sym (cond-true (nat_eq r turn) (Some (turn + 1)) None (eq-eqb r turn is)) ∙ e) in
      (sym is, omega arith)
  | inr apart ↦
      let f : None ≡ Some t = sym (cond-false (nat_eq r turn) (Some (turn + 1)) None (false_from_ne_true (nat_eq r turn) (λ h. apart (eqb-true r turn h)))) ∙ e in
      cc
]

leaves_node : (nodes : List Branch) (d turn r t : ℕ) (o : Option Branch) → node_at nodes r ≡ o → leave (turn_after nodes d) turn r o ≡ Some t → Leaves nodes d turn r t
leaves_node nodes d turn r t None at e = cc
leaves_node nodes d turn r t (Some n) at e = elim (option_cases (turn_after nodes d turn n.low)) [
  | inl none ↦
      let f : None ≡ Some t = sym (ap (λ o. option_and_then (in_turn r) (option_and_then (λ m. turn_after nodes d m n.high) o)) none) ∙ e in
      cc
  | inr low ↦
      let first : option_and_then (in_turn r) (turn_after nodes d low.0 n.high) ≡ Some t =
      sym (ap (λ o. option_and_then (in_turn r) (option_and_then (λ m. turn_after nodes d m n.high) o)) low.1) ∙ e in
      elim (option_cases (turn_after nodes d low.0 n.high)) [
        | inl none ↦ let f : None ≡ Some t = sym (ap (option_and_then (in_turn r)) none) ∙ first in cc
        | inr high ↦
            let is = turned r high.0 t (sym (ap (option_and_then (in_turn r)) high.1) ∙ first) in
            record { node = n; there = at; middle = low.0; low = low.1; high = high.1 ∙ ap Some is.0; ends = is.1 }
      ]
]

pub leaves : (nodes : List Branch) (d turn r t : ℕ) → turn ≤ r → turn_after nodes (suc d) turn r ≡ Some t → Leaves nodes d turn r t
leaves nodes d turn r t h e = leaves_node nodes d turn r t (node_at nodes r) refl (sym (turn_leave nodes d turn r h) ∙ e)

pub leaves_none : (nodes : List Branch) (turn r t : ℕ) → turn ≤ r → turn_after nodes zero turn r ≡ Some t → ⊥
leaves_none nodes turn r t h e = let f : None ≡ Some t = sym (turn_none nodes turn r h) ∙ e in cc

-- a walk that has gone as deep as it can has gone nowhere but to what was left
pub turn_stays : (nodes : List Branch) (d turn r t : ℕ) → r < turn → turn_after nodes d turn r ≡ Some t → t ≡ turn
turn_stays nodes d turn r t h e = same_Some t turn (sym e ∙ turn_below nodes d turn r h)

pub left_node : (nodes : List Branch) (d turn r middle : ℕ) (n : Branch) → node_at nodes r ≡ Some n → turn ≤ r
    → turn_after nodes d turn n.low ≡ Some middle → turn_after nodes d middle n.high ≡ Some r → turn_after nodes (suc d) turn r ≡ Some (r + 1)
left_node nodes d turn r middle n at h low high =
    turn_leave nodes d turn r h
    ∙ ap (leave (turn_after nodes d) turn r) at
    ∙ ap (λ o. option_and_then (in_turn r) (option_and_then (λ m. turn_after nodes d m n.high) o)) low
    ∙ ap (option_and_then (in_turn r)) high
    ∙ cond-true (nat_eq r r) (Some (r + 1)) None (eq-eqb r r refl)

-- the turn grows past each reference that was walked
pub turn_past : (nodes : List Branch) (d turn r t : ℕ) → turn_after nodes d turn r ≡ Some t → (turn ≤ t) × (r < t)
turn_past nodes zero turn r t e = elim (cases_lt r turn) [
  | inl below ↦ let is = turn_stays nodes zero turn r t below e in (omega arith, omega arith)
  | inr above ↦ absurd (leaves_none nodes turn r t above e)
]
turn_past nodes (suc d) turn r t e = elim (cases_lt r turn) [
  | inl below ↦ let is = turn_stays nodes (suc d) turn r t below e in (omega arith, omega arith)
  | inr above ↦ let l = leaves nodes d turn r t above e in let is : t ≡ r + 1 = l.ends in (omega arith, omega arith)
]

same_list : {X : Type 0} (xs ys : List X) → length xs ≡ length ys → ((k : ℕ) → k < length xs → slice_get xs k ≡ slice_get ys k) → xs ≡ ys
same_list [] [] l h = refl
same_list [] (y ∷ ys) l h = absurd (omega arith)
same_list (x ∷ xs) [] l h = absurd (omega arith)
same_list (x ∷ xs) (y ∷ ys) l h = ap₂ (λ z zs. z ∷ zs) (same_Some x y (h 0 (omega arith))) (same_list xs ys (omega arith) (λ k b. h (suc k) (omega arith)))

module _ (a : List Branch) (whole : IsReduced a) (b : List Branch) (other : IsReduced b) where
  -- both lists have the same nodes at the references below a limit
  abbrev Agree : ℕ → Type 0
  Agree limit = (i : ℕ) → i < limit → node_at a i ≡ node_at b i

  agreed_value : (limit d r : ℕ) → Agree limit → r ≤ d → r < limit → Same a r b r
  agreed_value limit zero r agree h below bits =
      value_at_end a r bits (no_node a r (omega arith)) ∙ sym (value_at_end b r bits (no_node b r (omega arith)))
  agreed_value limit (suc d) r agree h below bits = elim (option_cases (node_at a r)) [
    | inl none ↦ value_at_end a r bits none ∙ sym (value_at_end b r bits (sym (agree r below) ∙ none))
    | inr n ↦
        let before = whole.earlier r n.0 n.1 in
        value_at_node a whole r n.0 bits n.1
        ∙ same_cond (bits n.0.var) (value_at a n.0.high bits) (value_at a n.0.low bits) (value_at b n.0.high bits) (value_at b n.0.low bits)
        (agreed_value limit d n.0.high agree (omega (arith, before.1)) (omega (arith, before.1)) bits)
        (agreed_value limit d n.0.low agree (omega (arith, before.0)) (omega (arith, before.0)) bits)
        ∙ sym (value_at_node b other r n.0 bits (sym (agree r below) ∙ n.1))
  ]

  within_other : (limit r : ℕ) → Agree limit → r < limit → r < length a + 2 → r < length b + 2
  within_other limit r agree below w = elim (cases_lt r 2) [
    | inl small ↦ omega arith
    | inr node ↦ let n = node_there a r node w in (node_within b r n.0 (sym (agree r below) ∙ n.1)).1
  ]

  within_first : (limit r : ℕ) → Agree limit → r < limit → r < length b + 2 → r < length a + 2
  within_first limit r agree below w = elim (cases_lt r 2) [
    | inl small ↦ omega arith
    | inr node ↦ let n = node_there b r node w in (node_within a r n.0 (agree r below ∙ n.1)).1
  ]

  -- what two walks of equal values come to
  record Joined (r s t u : ℕ) : Type 0 where
    pub reference : r ≡ s
    pub turn : t ≡ u
    pub agree : Agree t

  more : (limit : ℕ) → Agree limit → node_at a limit ≡ node_at b limit → Agree (limit + 1)
  more limit agree here i below = elim (cases_eq i limit) [
    | inl is ↦ ap (node_at a) is ∙ here ∙ ap (node_at b) (sym is)
    | inr apart ↦ agree i (omega arith)
  ]

  -- of equal values the one that is left already is the other
  left_first : (turn r s : ℕ) → Same a r b s → Agree turn → r < length a + 2 → s < length b + 2 → r < turn → r ≡ s
  left_first turn r s same agree w w' below =
      one_reference b other r s (within_other turn r agree below w) w' (λ bits. sym (agreed_value turn r r agree (omega arith) below bits) ∙ same bits)

  left_second : (turn r s : ℕ) → Same a r b s → Agree turn → r < length a + 2 → s < length b + 2 → s < turn → r ≡ s
  left_second turn r s same agree w w' below =
      one_reference a whole r s w (within_first turn s agree below w') (λ bits. same bits ∙ sym (agreed_value turn s s agree (omega arith) below bits))

  left_already : (d e turn r s t u : ℕ) → turn_after a d turn r ≡ Some t → turn_after b e turn s ≡ Some u → Agree turn → r ≡ s → r < turn → Joined r s t u
  left_already d e turn r s t u p q agree is below =
      let one : t ≡ turn = turn_stays a d turn r t below p in
      let two : u ≡ turn = turn_stays b e turn s u (omega arith) q in
      record { reference = is; turn = one ∙ sym two; agree = subst Agree (sym one) agree }

  -- both leave a node
  both_leave : (d e turn r s t u : ℕ) → Same a r b s → Agree turn → (l : Leaves a d turn r t) → (m : Leaves b e turn s u)
      → ((turn x y v w : ℕ) → turn_after a d turn x ≡ Some v → turn_after b e turn y ≡ Some w → Same a x b y → Agree turn → x < length a + 2 → y < length b + 2 → Joined x y v w)
      → Joined r s t u
  both_leave d e turn r s t u same agree l m join =
      let found = same_is_node a whole b other r s l.node l.there same in
      let n : found.0 ≡ m.node = one_node b s found.0 m.node found.1 m.there in
      let var : l.node.var ≡ m.node.var = found.2 ∙ ap (λ k. k.var) n in
      let w1 = branches_within a whole r l.node l.there in
      let w2 = branches_within b other s m.node m.there in
      let first = join turn l.node.low m.node.low l.middle m.middle l.low m.low (same_low a whole r l.node l.there b other s m.node m.there same var) agree w1.0 w2.0 in
      let P : ℕ → Type 0 = λ k. turn_after b e k m.node.high ≡ Some s in
      let second = join l.middle l.node.high m.node.high r s l.high (subst P (sym first.turn) m.high) (same_high a whole r l.node l.there b other s m.node m.there same var) first.agree w1.1 w2.1 in
      let is : r ≡ s = second.turn in
      let node : l.node ≡ m.node = from_parts l.node m.node var first.reference second.reference in
      record {
        reference = is;
        turn = l.ends ∙ ap (λ k. k + 1) is ∙ sym m.ends;
        agree = subst Agree (sym l.ends) (more r second.agree (l.there ∙ ap Some node ∙ sym m.there ∙ ap (node_at b) (sym is)));
      }

  -- walks from references of equal values leave the same nodes
  joined : (d e turn r s t u : ℕ) → turn_after a d turn r ≡ Some t → turn_after b e turn s ≡ Some u → Same a r b s → Agree turn
      → r < length a + 2 → s < length b + 2 → Joined r s t u
  joined zero e turn r s t u p q same agree w w' = elim (cases_lt r turn) [
    | inl below ↦ left_already zero e turn r s t u p q agree (left_first turn r s same agree w w' below) below
    | inr above ↦ absurd (leaves_none a turn r t above p)
  ]
  joined (suc d) zero turn r s t u p q same agree w w' = elim (cases_lt s turn) [
    | inl below ↦ let is : r ≡ s = left_second turn r s same agree w w' below in left_already (suc d) zero turn r s t u p q agree is (omega arith)
    | inr above ↦ absurd (leaves_none b turn s u above q)
  ]
  joined (suc d) (suc e) turn r s t u p q same agree w w' = elim (cases_lt r turn) [
    | inl below ↦ left_already (suc d) (suc e) turn r s t u p q agree (left_first turn r s same agree w w' below) below
    | inr above ↦ elim (cases_lt s turn) [
      | inl below ↦ let is : r ≡ s = left_second turn r s same agree w w' below in left_already (suc d) (suc e) turn r s t u p q agree is (omega arith)
      | inr above' ↦ both_leave d e turn r s t u same agree (leaves a d turn r t above p) (leaves b e turn s u above' q) (joined d e)
    ]
  ]

-- a list whose references are left in turn is decided by its values
pub turned_is_one : (a b : List Branch) (r s : ℕ) → IsTurned r a → IsTurned s b → Same a r b s → (r ≡ s) × (a ≡ b)
turned_is_one a b r s p q same =
    let one = turn_past a r 2 r (length a + 2) p.post_order in
    let two = turn_past b s 2 s (length b + 2) q.post_order in
    let j = joined a p.reduced b q.reduced r s 2 r s (length a + 2) (length b + 2) p.post_order q.post_order same
    (λ i below. no_node a i below ∙ sym (no_node b i below)) one.1 two.1 in
    let count : length a + 2 ≡ length b + 2 = j.turn in
    (j.reference, same_list a b (omega arith) (λ k within. j.agree (suc (suc k)) (omega arith)))

-- ---- the variables of a canonical list are read

-- bits from a limit on make no difference
abbrev pub ReadsBelow : ℕ → List Branch → ℕ → Type 0
ReadsBelow limit nodes r = (bits other : ℕ → Bool) → ((k : ℕ) → k < limit → bits k ≡ other k) → value_at nodes r bits ≡ value_at nodes r other

pub reads_below : (limit : ℕ) (nodes : List Branch) → IsReduced nodes → (r : ℕ) → HasVariablesBelow limit nodes → ReadsBelow limit nodes r
reads_below limit nodes all r below bits other same = value_agrees nodes all bits other (λ _. Unit {0}) (λ s n e i. (same n.var (below s n e), tt, tt)) r r (omega arith) tt

module _ (limit : ℕ) (nodes : List Branch) (all : IsReduced nodes) where
  set_agrees : (bits other : ℕ → Bool) (v : ℕ) (b : Bool) → ((k : ℕ) → k < limit → bits k ≡ other k) → (k : ℕ) → k < limit → set_bit bits v b k ≡ set_bit other v b k
  set_agrees bits other v b same k below = ap (λ x. cond (nat_eq k v) b x) (same k below)

  reads_variable : (r : ℕ) (n : Branch) → node_at nodes r ≡ Some n → ReadsBelow limit nodes r → n.var < limit
  reads_variable r n at reads = elim (cases_lt n.var limit) [
    | inl below ↦ below
    | inr past ↦ absurd (branches_apart nodes all r n at (one_value nodes all r n at (λ bits. reads (set_bit bits n.var false) (set_bit bits n.var true)
        (λ k below. set_other bits n.var false k (λ e. absurd (omega arith)) ∙ sym (set_other bits n.var true k (λ e. absurd (omega arith)))))))
  ]

  reads_low : (r : ℕ) (n : Branch) → node_at nodes r ≡ Some n → ReadsBelow limit nodes r → ReadsBelow limit nodes n.low
  reads_low r n at reads bits other same =
      low_value nodes all r n at bits ∙ reads (set_bit bits n.var false) (set_bit other n.var false) (set_agrees bits other n.var false same) ∙ sym (low_value nodes all r n at other)

  reads_high : (r : ℕ) (n : Branch) → node_at nodes r ≡ Some n → ReadsBelow limit nodes r → ReadsBelow limit nodes n.high
  reads_high r n at reads bits other same =
      high_value nodes all r n at bits ∙ reads (set_bit bits n.var true) (set_bit other n.var true) (set_agrees bits other n.var true same) ∙ sym (high_value nodes all r n at other)

  -- each node that a walk leaves has its variable read
  left_is_read : (d turn r t : ℕ) → turn_after nodes d turn r ≡ Some t → ReadsBelow limit nodes r → (i : ℕ) (n : Branch) → turn ≤ i → i < t → node_at nodes i ≡ Some n → n.var < limit
  left_is_read zero turn r t e reads i n h h' at = elim (cases_lt r turn) [
    | inl below ↦ let is : t ≡ turn = turn_stays nodes zero turn r t below e in absurd (omega arith)
    | inr above ↦ absurd (leaves_none nodes turn r t above e)
  ]
  left_is_read (suc d) turn r t e reads i n h h' at = elim (cases_lt r turn) [
    | inl below ↦ let is : t ≡ turn = turn_stays nodes (suc d) turn r t below e in absurd (omega arith)
    | inr above ↦
        let l = leaves nodes d turn r t above e in
        let ends : t ≡ r + 1 = l.ends in
        elim (cases_lt i l.middle) [
          | inl first ↦ left_is_read d turn l.node.low l.middle l.low (reads_low r l.node l.there reads) i n h first at
          | inr later ↦ elim (cases_lt i r) [
            | inl second ↦ left_is_read d l.middle l.node.high r l.high (reads_high r l.node l.there reads) i n later second at
            | inr last ↦
                let is : r ≡ i = omega arith in
                reads_variable i n at (subst (ReadsBelow limit nodes) is reads)
          ]
        ]
  ]

pub turned_reads : (limit : ℕ) (nodes : List Branch) (root : ℕ) → IsTurned root nodes → ReadsBelow limit nodes root → HasVariablesBelow limit nodes
turned_reads limit nodes root c reads r n at =
    let w = node_within nodes r n at in
    left_is_read limit nodes c.reduced root 2 root (length nodes + 2) c.post_order reads r n w.0 w.1 at

and_then_same : (o : Option ℕ) (f g : ℕ → Option ℕ) → ((x : ℕ) → f x ≡ g x) → option_and_then f o ≡ option_and_then g o
and_then_same None f g same = refl
and_then_same (Some x) f g same = same x

turn_constant : (nodes : List Branch) (d turn r : ℕ) → turn ≤ r → node_at nodes r ≡ None → turn_after nodes (suc d) turn r ≡ None
turn_constant nodes d turn r above none = turn_leave nodes d turn r above ∙ ap (leave (turn_after nodes d) turn r) none

-- a deeper walk comes to the same
pub turn_deeper : (nodes : List Branch) → IsReduced nodes → (d e turn r : ℕ) → r ≤ d → r ≤ e → turn_after nodes d turn r ≡ turn_after nodes e turn r
turn_deeper nodes all zero zero turn r h h' = refl
turn_deeper nodes all zero (suc e) turn r h h' = elim (cases_lt r turn) [
  | inl below ↦ turn_below nodes zero turn r below ∙ sym (turn_below nodes (suc e) turn r below)
  | inr above ↦ turn_none nodes turn r above ∙ sym (turn_constant nodes e turn r above (no_node nodes r (omega arith)))
]
turn_deeper nodes all (suc d) zero turn r h h' = elim (cases_lt r turn) [
  | inl below ↦ turn_below nodes (suc d) turn r below ∙ sym (turn_below nodes zero turn r below)
  | inr above ↦ turn_constant nodes d turn r above (no_node nodes r (omega arith)) ∙ sym (turn_none nodes turn r above)
]
turn_deeper nodes all (suc d) (suc e) turn r h h' = elim (cases_lt r turn) [
  | inl below ↦ turn_below nodes (suc d) turn r below ∙ sym (turn_below nodes (suc e) turn r below)
  | inr above ↦ elim (option_cases (node_at nodes r)) [
    | inl none ↦ turn_constant nodes d turn r above none ∙ sym (turn_constant nodes e turn r above none)
    | inr n ↦
        let before = all.earlier r n.0 n.1 in
        turn_leave nodes d turn r above
        ∙ ap (leave (turn_after nodes d) turn r) n.1
        ∙ ap (option_and_then (in_turn r))
        (ap (option_and_then (λ m. turn_after nodes d m n.0.high)) (turn_deeper nodes all d e turn n.0.low (omega (arith, before.0)) (omega (arith, before.0)))
        ∙ and_then_same (turn_after nodes e turn n.0.low) (λ m. turn_after nodes d m n.0.high) (λ m. turn_after nodes e m n.0.high)
        (λ m. turn_deeper nodes all d e m n.0.high (omega (arith, before.1)) (omega (arith, before.1))))
        ∙ sym (turn_leave nodes e turn r above ∙ ap (leave (turn_after nodes e) turn r) n.1)
  ]
]

-- the walk from a node, by those from its branches
pub turn_by_branches : (nodes : List Branch) → IsReduced nodes → (turn r : ℕ) (n : Branch) → turn ≤ r → node_at nodes r ≡ Some n
    → turn_after nodes r turn r ≡ option_and_then (in_turn r) (option_and_then (λ m. turn_after nodes n.high m n.high) (turn_after nodes n.low turn n.low))
turn_by_branches nodes all turn zero n above at = cc
turn_by_branches nodes all turn (suc d) n above at =
    let before = all.earlier (suc d) n at in
    turn_leave nodes d turn (suc d) above
    ∙ ap (leave (turn_after nodes d) turn (suc d)) at
    ∙ ap (option_and_then (in_turn (suc d)))
    (ap (option_and_then (λ m. turn_after nodes d m n.high)) (turn_deeper nodes all d n.low turn n.low (omega (arith, before.0)) (omega arith))
    ∙ and_then_same (turn_after nodes n.low turn n.low) (λ m. turn_after nodes d m n.high) (λ m. turn_after nodes n.high m n.high)
    (λ m. turn_deeper nodes all d n.high m n.high (omega (arith, before.1)) (omega arith)))

pub turn_nowhere : (nodes : List Branch) (turn r : ℕ) → turn ≤ r → node_at nodes r ≡ None → turn_after nodes r turn r ≡ None
turn_nowhere nodes turn zero above none = turn_none nodes turn zero above
turn_nowhere nodes turn (suc d) above none = turn_constant nodes d turn (suc d) above none
