-- A walk along a chain, the last cell first.
use Rattle.std.proofs.Common.{zero, suc, ◌≡◌, ℕ, set, ◌*◌, ◌/◌, ◌^◌, ◌<◌, Bool, true, false, List, [], ◌∷◌, ◌++◌, length, map, take, replicate, refl, sym, ap, ◌∙◌, subst, inl, inr, arith}
use Rattle.std.specs.Prelude.{Option, None, Some, cond, slice_get, nat_eq, ◌⊎◌}
use Rattle.std.proofs.lemmas.Bool.{cond-true, cond-false, cases_Bool, eqb-true, eqb-false, eq-eqb}
use Rattle.std.proofs.lemmas.List.{take_all, length-take, length-set, take-append-le, take_at}
use Rattle.std.proofs.lemmas.Option.{same_Some, slice_get_within}
use Rattle.key_rows.specs.Positions.{last_where}
use Rattle.key_rows.specs.declared.keyed.Cell.{Cell}
use Rattle.key_rows.specs.private.Chains.{member_in, chain_of, is_in, AreChained}
use Rattle.key_rows.proofs.RowLemmas.{last_within, last_where-push}

pub last_where-map : {X Y : Type 0} (p : Y → Bool) (f : X → Y) (xs : List X) → last_where p (map f xs) ≡ last_where (λ x. p (f x)) xs
last_where-map p f [] = refl
last_where-map p f (x ∷ xs) = ap (λ o. elim o [ Some k ↦ Some (suc k) | None ↦ cond (p (f x)) (Some 0) None ]) (last_where-map p f xs)

abbrev first_if : Bool → Option ℕ
first_if b = cond b (Some 0) None

abbrev next_last : Bool → Option ℕ → Option ℕ
next_last b o = elim o [ Some k ↦ Some (suc k) | None ↦ first_if b ]

module _ {X : Type 0} (p q : X → Bool) (narrower : (x : X) → q x ≡ true → p x ≡ true) where
  -- where none passes the wider test, none passes the narrower
  pub last_none : (xs : List X) → last_where p xs ≡ None → last_where q xs ≡ None
  last_none [] e = refl
  last_none (x ∷ xs) e = elim (last_where p xs) as (λ o. last_where p xs ≡ o → next_last (p x) o ≡ None → next_last (q x) (last_where q xs) ≡ None) [
    | Some k ↦ λ was f. cc
    | None ↦ λ was f. ap (next_last (q x)) (last_none xs was) ∙ elim (q x) as (λ b. q x ≡ b → first_if b ≡ None) [
      | false ↦ λ h. refl
      | true ↦ λ h. sym (ap first_if (narrower x h)) ∙ f
    ] refl
  ] refl e

  -- the last that passes the narrower test is the last that passes the wider, or stands before it
  pub last_cut : (xs : List X) (m k : ℕ) (x : X) → last_where p (take m xs) ≡ Some k → slice_get xs k ≡ Some x
      → last_where q (take m xs) ≡ cond (q x) (Some k) (last_where q (take k xs))
  last_cut xs zero k x e at = cc
  last_cut [] (suc m) k x e at = cc
  last_cut (y ∷ ys) (suc m) k x e at = elim (last_where p (take m ys)) as (λ o. last_where p (take m ys) ≡ o → next_last (p y) o ≡ Some k
      → next_last (q y) (last_where q (take m ys)) ≡ cond (q x) (Some k) (last_where q (take k (y ∷ ys)))) [
        | Some j ↦ λ was f.
            let is : suc j ≡ k = same_Some (suc j) k f in
            let there : slice_get ys j ≡ Some x = ap (slice_get (y ∷ ys)) is ∙ at in
            subst (λ n. next_last (q y) (last_where q (take m ys)) ≡ cond (q x) (Some n) (last_where q (take n (y ∷ ys)))) is
            (ap (next_last (q y)) (last_cut ys m j x was there)
            ∙ elim (q x) as (λ b. next_last (q y) (cond b (Some j) (last_where q (take j ys))) ≡ cond b (Some (suc j)) (next_last (q y) (last_where q (take j ys)))) [ true ↦ refl | false ↦ refl ])
        | None ↦ λ was f. elim (p y) as (λ b. p y ≡ b → first_if b ≡ Some k → next_last (q y) (last_where q (take m ys)) ≡ cond (q x) (Some k) (last_where q (take k (y ∷ ys)))) [
          | false ↦ λ h g. cc
          | true ↦ λ h g.
              let is : 0 ≡ k = same_Some 0 k g in
              let here : y ≡ x = same_Some y x (ap (slice_get (y ∷ ys)) is ∙ at) in
              subst (λ n. next_last (q y) (last_where q (take m ys)) ≡ cond (q x) (Some n) (last_where q (take n (y ∷ ys)))) is
              (ap (next_last (q y)) (last_none (take m ys) was) ∙ ap (λ z. first_if (q z)) here)
        ] refl f
      ] refl e

module _ {X : Type 0} (p : X → Bool) where
  pub last_below : (xs : List X) (m k : ℕ) → last_where p (take m xs) ≡ Some k → k < m
  last_below xs m k e = omega (arith, last_within p (take m xs) k e, length-take m xs)

  pub last_inside : (xs : List X) (m k : ℕ) → last_where p (take m xs) ≡ Some k → k < length xs
  last_inside xs m k e = omega (arith, last_within p (take m xs) k e, length-take m xs)

module _ {X : Type 0} (p : X → Bool) where
  pub last_passes : (xs : List X) (m k : ℕ) (x : X) → last_where p (take m xs) ≡ Some k → slice_get xs k ≡ Some x → p x ≡ true
  last_passes xs zero k x e at = cc
  last_passes [] (suc m) k x e at = cc
  last_passes (y ∷ ys) (suc m) k x e at = elim (last_where p (take m ys)) as (λ o. last_where p (take m ys) ≡ o → next_last (p y) o ≡ Some k → p x ≡ true) [
    | Some j ↦ λ was f. last_passes ys m j x was (ap (slice_get (y ∷ ys)) (same_Some (suc j) k f) ∙ at)
    | None ↦ λ was f. elim (p y) as (λ b. p y ≡ b → first_if b ≡ Some k → p x ≡ true) [
      | false ↦ λ h g. cc
      | true ↦ λ h g. subst (λ z. p z ≡ true) (same_Some y x (ap (slice_get (y ∷ ys)) (same_Some 0 k g) ∙ at)) h
    ] refl f
  ] refl e

-- where a walk along a chain has come to: what is left stands before one place, and the key's cell stands there if anywhere
pub record IsWalked {T : Type 0} (test mine : Cell T → Bool) (cells : List (Cell T)) (at : Option ℕ) : Type 0 where
  pub below : ℕ
  pub left : at ≡ last_where test (take below cells)
  pub found : last_where mine cells ≡ last_where mine (take below cells)

-- how far a walk has still to go
abbrev pub to_go : Option ℕ → ℕ
to_go o = elim o [ None ↦ 0 | Some k ↦ suc k ]

module _ {K T : Type 0} (key_of : T → K) where
  -- it has the key
  abbrev pub mine : (K → K → Bool) → K → Cell T → Bool
  mine same key c = same key (key_of c.member)

  -- it is in the key's chain
  abbrev pub test : (ℕ → K → ℕ) → ℕ → K → List (Option ℕ) → Cell T → Bool
  test spread round key heads = is_in key_of spread round (length heads) (chain_of spread round (length heads) key)

module _ {K T : Type 0} (key_of : T → K) (same : K → K → Bool) (spread : ℕ → K → ℕ) (round : ℕ) (alike : (a b : K) → same a b ≡ true → spread round a ≡ spread round b)
    (key : K) (cells : List (Cell T)) (heads : List (Option ℕ)) (chained : AreChained key_of spread round cells heads) where
  abbrev p : Cell T → Bool
  p = test key_of spread round key heads

  abbrev q : Cell T → Bool
  q = mine key_of same key

  narrower : (c : Cell T) → q c ≡ true → p c ≡ true
  narrower c e = eq-eqb (chain_of spread round (length heads) (key_of c.member)) (chain_of spread round (length heads) key) (ap (λ n. n * length heads / 2 ^ 64) (sym (alike key (key_of c.member) e)))

  pub walk_starts : (at : Option ℕ) → at ≡ last_where p cells → IsWalked p q cells at
  walk_starts at e =
      let all : take (length cells) cells ≡ cells = take_all (length cells) cells (omega arith) in
      record { below = length cells; left = e ∙ ap (last_where p) (sym all); found = ap (last_where q) (sym all) }

  module _ (k : ℕ) (walked : IsWalked p q cells (Some k)) where
    pub walk_inside : k < length cells
    walk_inside = last_inside p cells walked.below k (sym walked.left)

    module _ (c : Cell T) (there : slice_get cells k ≡ Some c) where
      cut : last_where q cells ≡ cond (q c) (Some k) (last_where q (take k cells))
      cut = walked.found ∙ last_cut p q narrower cells walked.below k c (sym walked.left) there

      pub walk_found : q c ≡ true → Some k ≡ last_where q cells
      walk_found e = sym (cut ∙ cond-true (q c) (Some k) (last_where q (take k cells)) e)

      -- it stands in the chain that is walked along
      in_chain : p c ≡ true
      in_chain = last_passes p cells walked.below k c (sym walked.left) there

      before : c.before ≡ last_where p (take k cells)
      before = chained.goes_on k c there
          ∙ ap (λ n. last_where (is_in key_of spread round (length heads) n) (take k cells)) (eqb-true (chain_of spread round (length heads) (key_of c.member)) (chain_of spread round (length heads) key) in_chain)

      pub walk_goes_on : q c ≡ false → IsWalked p q cells c.before
      walk_goes_on e = record { below = k; left = before; found = cut ∙ cond-false (q c) (Some k) (last_where q (take k cells)) e }

      pub walk_nears_its_end : to_go c.before < suc k
      walk_nears_its_end = elim (c.before) as (λ o. c.before ≡ o → to_go o < suc k) [
        | None ↦ λ e. omega arith
        | Some j ↦ λ e. omega (arith, last_below p cells k j (sym before ∙ e))
      ] refl

  pub walk_ends : IsWalked p q cells None → None ≡ last_where q cells
  walk_ends walked = sym (walked.found ∙ last_none p q narrower (take walked.below cells) (sym walked.left))

module _ {X : Type 0} (y : X) where
  pub get_set_same : (xs : List X) (i : ℕ) → i < length xs → slice_get (set xs i y) i ≡ Some y
  get_set_same [] i h = absurd (omega arith)
  get_set_same (x ∷ xs) zero h = refl
  get_set_same (x ∷ xs) (suc i) h = get_set_same xs i (omega arith)

  pub get_set_other : (xs : List X) (i j : ℕ) → (i ≡ j → ⊥) → slice_get (set xs i y) j ≡ slice_get xs j
  get_set_other [] i j h = refl
  get_set_other (x ∷ xs) zero zero h = absurd (h refl)
  get_set_other (x ∷ xs) zero (suc j) h = refl
  get_set_other (x ∷ xs) (suc i) zero h = refl
  get_set_other (x ∷ xs) (suc i) (suc j) h = get_set_other xs i j (λ e. h (ap suc e))

  pub get_push : (xs : List X) (i : ℕ) (x : X) → slice_get (xs ++ y ∷ []) i ≡ Some x → (slice_get xs i ≡ Some x) ⊎ ((i ≡ length xs) × (y ≡ x))
  get_push [] zero x e = inr (refl, same_Some y x e)
  get_push [] (suc i) x e = cc
  get_push (z ∷ zs) zero x e = inl e
  get_push (z ∷ zs) (suc i) x e = elim (get_push zs i x e) [
    | inl there ↦ inl there
    | inr last ↦ inr (ap suc last.0, last.1)
  ]

module _ {K T : Type 0} (key_of : T → K) (spread : ℕ → K → ℕ) (round : ℕ) (cells : List (Cell T)) (heads : List (Option ℕ)) (chained : AreChained key_of spread round cells heads) (c : Cell T) where
  abbrev at : ℕ
  at = chain_of spread round (length heads) (key_of c.member)

  module _ (before : c.before ≡ last_where (is_in key_of spread round (length heads) (chain_of spread round (length heads) (key_of c.member))) cells)
      (within : chain_of spread round (length heads) (key_of c.member) < length heads) where
    begins : (chain : ℕ) → chain < length heads → slice_get (set heads at (Some (length cells))) chain ≡ Some (last_where (is_in key_of spread round (length heads) chain) (cells ++ c ∷ []))
    begins chain below = elim (cases_Bool (nat_eq at chain)) [
      | inl here ↦
          ap (λ n. slice_get (set heads at (Some (length cells))) n) (sym (eqb-true at chain here))
          ∙ get_set_same (Some (length cells)) heads at within
          ∙ ap Some (sym (last_where-push (is_in key_of spread round (length heads) chain) c cells ∙ cond-true (nat_eq at chain) (Some (length cells)) (last_where (is_in key_of spread round (length heads) chain) cells) here))
      | inr other ↦
          get_set_other (Some (length cells)) heads at chain (eqb-false at chain other)
          ∙ chained.begins chain below
          ∙ ap Some (sym (last_where-push (is_in key_of spread round (length heads) chain) c cells ∙ cond-false (nat_eq at chain) (Some (length cells)) (last_where (is_in key_of spread round (length heads) chain) cells) other))
    ]

    goes_on : (i : ℕ) (x : Cell T) → slice_get (cells ++ c ∷ []) i ≡ Some x
        → x.before ≡ last_where (is_in key_of spread round (length heads) (chain_of spread round (length heads) (key_of x.member))) (take i (cells ++ c ∷ []))
    goes_on i x there = elim (get_push c cells i x there) [
      | inl old ↦
          let inside : i < length cells = slice_get_within cells i x old in
          chained.goes_on i x old
          ∙ ap (last_where (is_in key_of spread round (length heads) (chain_of spread round (length heads) (key_of x.member)))) (sym (take-append-le i cells (c ∷ []) (omega arith)))
      | inr new ↦
          ap (λ (z : Cell T). z.before) (sym new.1) ∙ before
          ∙ ap (λ (z : Cell T). last_where (is_in key_of spread round (length heads) (chain_of spread round (length heads) (key_of z.member))) cells) new.1
          ∙ ap (last_where (is_in key_of spread round (length heads) (chain_of spread round (length heads) (key_of x.member)))) (sym (take_at cells (c ∷ []) i (sym new.0)))
    ]

    same_count : length (set heads at (Some (length cells))) ≡ length heads
    same_count = length-set heads at (Some (length cells))

    -- chains once a cell goes last: its chain ends with it, and the others as they did
    pub chained_push : AreChained key_of spread round (cells ++ c ∷ []) (set heads at (Some (length cells)))
    chained_push = record {
      some = λ none. absurd (omega (arith, within, same_count));
      begins = subst (λ n. (chain : ℕ) → chain < n → slice_get (set heads at (Some (length cells))) chain ≡ Some (last_where (is_in key_of spread round n chain) (cells ++ c ∷ []))) (sym same_count) begins;
      goes_on = subst (λ n. (i : ℕ) (x : Cell T) → slice_get (cells ++ c ∷ []) i ≡ Some x
          → x.before ≡ last_where (is_in key_of spread round n (chain_of spread round n (key_of x.member))) (take i (cells ++ c ∷ []))) (sym same_count) goes_on;
    }

module _ {K T : Type 0} (key_of : T → K) (spread : ℕ → K → ℕ) (round : ℕ) (cells : List (Cell T)) (heads : List (Option ℕ)) (chained : AreChained key_of spread round cells heads) where
  -- what a key's chain ends with
  pub end_of : (k : K) (chain : ℕ) (o : Option ℕ) → chain ≡ chain_of spread round (length heads) k → chain < length heads → slice_get heads chain ≡ Some o
      → o ≡ last_where (is_in key_of spread round (length heads) (chain_of spread round (length heads) k)) cells
  end_of k chain o is within there = same_Some o (last_where (is_in key_of spread round (length heads) (chain_of spread round (length heads) k)) cells)
      (sym there ∙ chained.begins chain within ∙ ap (λ n. Some (last_where (is_in key_of spread round (length heads) n) cells)) is)

  -- chains once a row goes last
  pub chained_row : (c : Cell T) (chain n : ℕ) (new_cells : List (Cell T)) (new_heads : List (Option ℕ))
      → chain ≡ chain_of spread round (length heads) (key_of c.member) → chain < length heads → slice_get heads chain ≡ Some c.before → n ≡ length cells
      → new_heads ≡ set heads chain (Some n) → new_cells ≡ cells ++ c ∷ [] → AreChained key_of spread round new_cells new_heads
  chained_row c chain n new_cells new_heads is within there count heads_are cells_are =
      let at : chain_of spread round (length heads) (key_of c.member) < length heads = subst (λ m. m < length heads) is within in
      let made : AreChained key_of spread round (cells ++ c ∷ []) (set heads (chain_of spread round (length heads) (key_of c.member)) (Some (length cells))) =
      chained_push key_of spread round cells heads chained c (end_of (key_of c.member) chain c.before is within there) at in
      subst (λ hs. AreChained key_of spread round new_cells hs) (sym (heads_are ∙ ap (λ m. set heads m (Some n)) is ∙ ap (λ m. set heads (chain_of spread round (length heads) (key_of c.member)) (Some m)) count))
      (subst (λ cs. AreChained key_of spread round cs (set heads (chain_of spread round (length heads) (key_of c.member)) (Some (length cells)))) (sym cells_are) made)

-- where a cell is another with its member, the members are the same
pub members_same : {T : Type 0} (xs : List (Cell T)) (i : ℕ) (x y : Cell T) → slice_get xs i ≡ Some x → y.member ≡ x.member → map member_in (set xs i y) ≡ map member_in xs
members_same [] i x y there e = refl
members_same (z ∷ zs) zero x y there e = ap (λ m. m ∷ map member_in zs) (e ∙ ap member_in (sym (same_Some z x there)))
members_same (z ∷ zs) (suc i) x y there e = ap (λ ms. z.member ∷ ms) (members_same zs i x y there e)

-- where a cell is another, so are the members
pub members_set : {T : Type 0} (xs : List (Cell T)) (i : ℕ) (y : Cell T) → map member_in (set xs i y) ≡ set (map member_in xs) i y.member
members_set [] i y = refl
members_set (z ∷ zs) zero y = refl
members_set (z ∷ zs) (suc i) y = ap (λ ms. z.member ∷ ms) (members_set zs i y)

module _ {K T : Type 0} (key_of : T → K) (spread : ℕ → K → ℕ) (round : ℕ) where
  get_none : (n i : ℕ) → i < n → slice_get (replicate {A = Option ℕ} n None) i ≡ Some None
  get_none zero i h = absurd (omega arith)
  get_none (suc n) zero h = refl
  get_none (suc n) (suc i) h = get_none n i (omega arith)

  -- no cell is in no chain
  pub chained_none : (heads : List (Option ℕ)) → heads ≡ replicate (length heads) None → AreChained key_of spread round [] heads
  chained_none heads e = record {
    some = λ none. refl;
    begins = λ chain below. ap (λ hs. slice_get hs chain) e ∙ get_none (length heads) chain below;
    goes_on = λ i c there. cc;
  }

module _ {X : Type 0} (p : X → Bool) (x y : X) (alike : p y ≡ p x) where
  -- where one is another that passes alike, the last is the last
  pub last_set : (xs : List X) (m k : ℕ) → slice_get xs k ≡ Some x → last_where p (take m (set xs k y)) ≡ last_where p (take m xs)
  last_set xs zero k e = refl
  last_set [] (suc m) k e = cc
  last_set (z ∷ zs) (suc m) zero e = ap (λ b. next_last b (last_where p (take m zs))) (alike ∙ ap p (sym (same_Some z x e)))
  last_set (z ∷ zs) (suc m) (suc k) e = ap (next_last (p z)) (last_set zs m k e)

module _ {K T : Type 0} (key_of : T → K) (spread : ℕ → K → ℕ) (round : ℕ) (cells : List (Cell T)) (heads : List (Option ℕ)) (k : ℕ) (x y : Cell T) (there : slice_get cells k ≡ Some x)
    (key : key_of y.member ≡ key_of x.member) (before : y.before ≡ x.before) where
  last_all : (chain : ℕ) → last_where (is_in key_of spread round (length heads) chain) (set cells k y) ≡ last_where (is_in key_of spread round (length heads) chain) cells
  last_all chain =
      let p = is_in key_of spread round (length heads) chain in
      let n = length cells in
      ap (last_where p) (sym (take_all n (set cells k y) (omega (arith, length-set cells k y))))
      ∙ last_set p x y (ap (λ j. nat_eq (chain_of spread round (length heads) j) chain) key) cells n k there
      ∙ ap (last_where p) (take_all n cells (omega arith))

  last_some : (chain i : ℕ) → last_where (is_in key_of spread round (length heads) chain) (take i (set cells k y)) ≡ last_where (is_in key_of spread round (length heads) chain) (take i cells)
  last_some chain i = last_set (is_in key_of spread round (length heads) chain) x y (ap (λ j. nat_eq (chain_of spread round (length heads) j) chain) key) cells i k there

  -- chains are the same where a cell is another with its key and the one before it
  pub chained_same : AreChained key_of spread round cells heads → AreChained key_of spread round (set cells k y) heads
  chained_same chained = record {
    some = λ none. absurd (omega (arith, slice_get_within cells k x there, ap length (chained.some none)));
    begins = λ chain below. chained.begins chain below ∙ ap Some (sym (last_all chain));
    goes_on = λ i c at. elim (cases_Bool (nat_eq k i)) [
      | inl here ↦
          let is : k ≡ i = eqb-true k i here in
          let new : y ≡ c = same_Some y c (sym (get_set_same y cells k (slice_get_within cells k x there)) ∙ ap (slice_get (set cells k y)) is ∙ at) in
          ap (λ (z : Cell T). z.before) (sym new) ∙ before ∙ chained.goes_on k x there
          ∙ ap (λ j. last_where (is_in key_of spread round (length heads) (chain_of spread round (length heads) j)) (take k cells)) (sym key ∙ ap (λ (z : Cell T). key_of z.member) new)
          ∙ ap (λ n. last_where (is_in key_of spread round (length heads) (chain_of spread round (length heads) (key_of c.member))) (take n cells)) is
          ∙ sym (last_some (chain_of spread round (length heads) (key_of c.member)) i)
      | inr other ↦
          chained.goes_on i c (sym (get_set_other y cells k i (eqb-false k i other)) ∙ at)
          ∙ sym (last_some (chain_of spread round (length heads) (key_of c.member)) i)
    ];
  }
