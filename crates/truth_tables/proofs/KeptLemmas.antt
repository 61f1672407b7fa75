-- What of a reading is in memory, a part more, and an operand that is joined with what is open before it.
use Rattle.std.proofs.Common.{◌≡◌, ℕ, ◌+◌, ◌<◌, ◌≤◌, Bool, true, false, ◌&&◌, cond, List, [], ◌∷◌, ◌++◌, reverse, map, length, refl, sym, ap, ap₂, ◌∙◌, subst, arith}
use Rattle.std.proofs.lemmas.Bool.{le-leb, lt-leb, lt-ltb, ltb-true, ltb-false}
use Rattle.std.specs.Prelude.{Ok, Err, max, nat_lt}
use Rattle.std.specs.List.{list_all}
use Rattle.truth_tables.specs.Formulas.{Formula, Constant, Variable, Opposite, Binary, Ternary, is_over}
use Rattle.truth_tables.specs.Grammar.{Operator as OperatorValue, ThenOperator, SameOperator, OtherOperator, OrOperator, XorOperator, AndOperator, operator_level, table_of, Tree, Inverse, Two, depth, formula_of, has_large_table}
use Rattle.truth_tables.specs.Postfix.{taken}
use Rattle.truth_tables.specs.Stacks.{Pending, AfterNot, AfterOperator, InBracket, First2, Second2, First3, Second3, Third3, joined}
use Rattle.truth_tables.specs.private.Depths.{least}
use Rattle.truth_tables.specs.private.Shapes.{has_large}
use Rattle.truth_tables.specs.private.Kept.{kept, held, all_named, AreNamed, IsPlaceOf, HasOperand, IsMade, IsJoined, IsJoining}
use Rattle.truth_tables.specs.declared.part.Part.{Part}
use Rattle.truth_tables.specs.declared.part.Part.TheVariants.{Const as ConstPart, Var as VarPart, Not as NotPart, Two as TwoPart, Three as ThreePart}
use Rattle.truth_tables.specs.declared.stop.Stop.{Stop}
use Rattle.truth_tables.specs.declared.stop.Stop.TheVariants.{Form, Excess, Memory}
use Rattle.truth_tables.specs.declared.reader.OpenPart.{OpenPart}
use Rattle.truth_tables.specs.declared.reader.OpenPart.TheVariants.{Not, Operator}
use Rattle.truth_tables.proofs.ShapeLemmas.{swap}
use Rattle.truth_tables.proofs.TopLemmas.{top_first, not_on_top, operator_on_top}

-- ---- a part more

pub made_deep : (limit below : ℕ) (p : Part) (old now : List (Formula ℕ)) (s : Stop) → Err s ≡ cond (nat_lt below limit) (Ok (below + 1)) (Err Excess) → IsMade limit below p old (Err s) now
made_deep limit below p old now s h = go (nat_lt below limit) refl s h
  where
    go : (t : Bool) → nat_lt below limit ≡ t → (s : Stop) → Err s ≡ cond t (Ok (below + 1)) (Err Excess) → IsMade limit below p old (Err s) now
    go true is s h = cc
    go false is Form h = cc
    go false is Memory h = cc
    go false is Excess h = ltb-false below limit is

pub made_so : (limit below d : ℕ) (p : Part) (old now : List (Formula ℕ)) → Ok d ≡ cond (nat_lt below limit) (Ok (below + 1)) (Err Excess) → now ≡ taken p old → IsMade limit below p old (Ok d) now
made_so limit below d p old now h g = go (nat_lt below limit) refl h
  where
    go : (t : Bool) → nat_lt below limit ≡ t → Ok d ≡ cond t (Ok (below + 1)) (Err Excess) → IsMade limit below p old (Ok d) now
    go true is h = let same : d ≡ below + 1 = cc in (same, ltb-true below limit is, g)
    go false is h = cc

pub made_no_memory : (limit below : ℕ) (p : Part) (old now : List (Formula ℕ)) (s : Stop) → s ≡ Memory → IsMade limit below p old (Err s) now
made_no_memory limit below p old now s is = subst (λ x. IsMade limit below p old (Err x) now) (sym is) tt

-- ---- formulas over names

pub constant_named : (names : List (List ℕ)) (b : Bool) (gs : List (Formula (List ℕ))) (fs : List (Formula ℕ)) → AreNamed names gs fs → AreNamed names (Constant b ∷ gs) (taken (ConstPart b) fs)
constant_named names b gs fs h = record { same = ap (λ x. Constant b ∷ x) h.same; over = h.over }

pub variable_named : (names : List (List ℕ)) (k : ℕ) (x : List ℕ) (gs : List (Formula (List ℕ))) (fs : List (Formula ℕ)) → IsPlaceOf names k x → AreNamed names gs fs → AreNamed names (Variable x ∷ gs) (taken (VarPart k) fs)
variable_named names k x gs fs is h = record { same = ap₂ (λ y z. Variable y ∷ z) (sym is.1) h.same; over = rw (lt-ltb k (length names) is.0) h.over }

pub opposite_named : (names : List (List ℕ)) (f : Formula (List ℕ)) (gs : List (Formula (List ℕ))) (fs : List (Formula ℕ)) → AreNamed names (f ∷ gs) fs → AreNamed names (Opposite f ∷ gs) (taken NotPart fs)
opposite_named names f gs fs h = go fs h.same h.over
  where
    under : List (Formula (List ℕ)) → List (Formula (List ℕ))
    under [] = []
    under (y ∷ ys) = Opposite y ∷ ys

    go : (fs : List (Formula ℕ)) → f ∷ gs ≡ all_named names fs → list_all (is_over (length names)) fs ≡ true → AreNamed names (Opposite f ∷ gs) (taken NotPart fs)
    go [] same over = cc
    go (x ∷ xs) same over = record { same = ap under same; over = over }

and_two : (l a b c : Bool) → l ≡ true → a && (b && c) ≡ true → (l && b && a) && c ≡ true
and_two true true true c i h = h
and_two true true false c i h = cc
and_two true false true c i h = cc
and_two true false false c i h = cc
and_two false a b c i h = cc

pub binary_named : (names : List (List ℕ)) (t : ℕ) (f g : Formula (List ℕ)) (hs : List (Formula (List ℕ))) (fs : List (Formula ℕ)) → nat_lt t 16 ≡ true → AreNamed names (g ∷ f ∷ hs) fs
    → AreNamed names (Binary t f g ∷ hs) (taken (TwoPart t) fs)
binary_named names t f g hs fs small h = go fs h.same h.over
  where
    under : List (Formula (List ℕ)) → List (Formula (List ℕ))
    under (v ∷ w ∷ ws) = Binary t w v ∷ ws
    under vs = []

    go : (fs : List (Formula ℕ)) → g ∷ f ∷ hs ≡ all_named names fs → list_all (is_over (length names)) fs ≡ true → AreNamed names (Binary t f g ∷ hs) (taken (TwoPart t) fs)
    go [] same over = cc
    go (x ∷ []) same over = cc
    go (x ∷ y ∷ zs) same over =
        record { same = ap under same; over = and_two (nat_lt t 16) (is_over (length names) x) (is_over (length names) y) (list_all (is_over (length names)) zs) small over }

and_three : (a b c d : Bool) → c && (b && (a && d)) ≡ true → (a && b && c) && d ≡ true
and_three true true true d h = h
and_three true true false d h = cc
and_three true false true d h = cc
and_three true false false d h = cc
and_three false true true d h = cc
and_three false true false d h = cc
and_three false false true d h = cc
and_three false false false d h = cc

pub ternary_named : (names : List (List ℕ)) (t : ℕ) (f g h : Formula (List ℕ)) (hs : List (Formula (List ℕ))) (fs : List (Formula ℕ)) → AreNamed names (h ∷ g ∷ f ∷ hs) fs
    → AreNamed names (Ternary t f g h ∷ hs) (taken (ThreePart t) fs)
ternary_named names t f g h hs fs is = go fs is.same is.over
  where
    under : List (Formula (List ℕ)) → List (Formula (List ℕ))
    under (u ∷ v ∷ w ∷ ws) = Ternary t w v u ∷ ws
    under vs = []

    go : (fs : List (Formula ℕ)) → h ∷ g ∷ f ∷ hs ≡ all_named names fs → list_all (is_over (length names)) fs ≡ true → AreNamed names (Ternary t f g h ∷ hs) (taken (ThreePart t) fs)
    go [] same over = cc
    go (x ∷ []) same over = cc
    go (x ∷ y ∷ []) same over = cc
    go (x ∷ y ∷ z ∷ zs) same over =
        record { same = ap under same; over = and_three (is_over (length names) z) (is_over (length names) y) (is_over (length names) x) (list_all (is_over (length names)) zs) over }

-- ---- an operand is joined

-- an operand that is partly joined
pub record IsReached (limit : ℕ) (names : List (List ℕ)) (level : ℕ) (ps : List Pending) (e : Tree) (now : List OpenPart) (fs : List (Formula ℕ)) (d : ℕ) : Type 0 where
  pub pending : List Pending
  pub operand : Tree
  pub has : HasOperand limit names pending operand now fs d
  pub same : joined level pending operand ≡ joined level ps e
  pub as_deep : least pending (depth operand) ≡ least ps (depth e)

-- what is open and built, from what it was at first
abbrev pub Reaches : ℕ → ℕ → List OpenPart → List (Formula ℕ) → ℕ → List OpenPart → List (Formula ℕ) → ℕ → Type 0
Reaches limit level old gs operand now fs d =
    (names : List (List ℕ)) (ps : List Pending) (e : Tree) → HasOperand limit names ps e old gs operand → IsReached limit names level ps e now fs d

pub operator_small : (o : OperatorValue) → nat_lt (table_of o) 16 ≡ true
operator_small ThenOperator = refl
operator_small SameOperator = refl
operator_small OtherOperator = refl
operator_small OrOperator = refl
operator_small XorOperator = refl
operator_small AndOperator = refl

pub at_least : (ps : List Pending) (d : ℕ) → d ≤ least ps d
at_least [] d = omega arith
at_least (AfterNot ∷ ps) d = omega (arith, at_least ps (d + 1))
at_least (AfterOperator o a ∷ ps) d = omega (arith, at_least ps (max (depth a) d + 1))
at_least (InBracket ∷ ps) d = omega (arith, at_least ps (d + 1))
at_least (First2 n ∷ ps) d = omega (arith, at_least ps (d + 1))
at_least (Second2 n a ∷ ps) d = omega (arith, at_least ps (max (depth a) d + 1))
at_least (First3 n ∷ ps) d = omega (arith, at_least ps (d + 1))
at_least (Second3 n a ∷ ps) d = omega (arith, at_least ps (max (depth a) d + 1))
at_least (Third3 n a b ∷ ps) d = omega (arith, at_least ps (max (depth a) (max (depth b) d) + 1))

joined_on : (k : ℕ) (o : OperatorValue) (a e : Tree) (ps : List Pending) → k ≤ operator_level o → joined k (AfterOperator o a ∷ ps) e ≡ joined k ps (Two o a e)
joined_on k o a e ps l = rw (le-leb k (operator_level o) l, joined) refl

joined_off : (k : ℕ) (o : OperatorValue) (a e : Tree) (ps : List Pending) → operator_level o < k → joined k (AfterOperator o a ∷ ps) e ≡ (AfterOperator o a ∷ ps, e)
joined_off k o a e ps l = rw (lt-leb k (operator_level o) l, joined) refl

-- what is neither `!` nor an operator
abbrev pub IsOther : OpenPart → Type 0
IsOther Not = ⊥
IsOther (Operator o d) = ⊥
IsOther p = Unit {0}

other_joined : (k : ℕ) (qs : List Pending) (e : Tree) (p : OpenPart) (rest : List OpenPart) → map kept qs ≡ p ∷ rest → IsOther p → joined k qs e ≡ (qs, e)
other_joined k [] e p rest h i = refl
other_joined k (AfterNot ∷ ps) e p rest h i = let same : p ≡ Not = cc in absurd (subst IsOther same i)
other_joined k (AfterOperator o a ∷ ps) e p rest h i = let same : p ≡ Operator o (depth a) = cc in absurd (subst IsOther same i)
other_joined k (InBracket ∷ ps) e p rest h i = refl
other_joined k (First2 n ∷ ps) e p rest h i = refl
other_joined k (Second2 n a ∷ ps) e p rest h i = refl
other_joined k (First3 n ∷ ps) e p rest h i = refl
other_joined k (Second3 n a ∷ ps) e p rest h i = refl
other_joined k (Third3 n a b ∷ ps) e p rest h i = refl

none_joined : (k : ℕ) (qs : List Pending) (e : Tree) → map kept qs ≡ [] → joined k qs e ≡ (qs, e)
none_joined k [] e h = refl
none_joined k (q ∷ qs) e h = cc

pub at_start : (limit level : ℕ) (old : List OpenPart) (fs : List (Formula ℕ)) (d : ℕ) → Reaches limit level old fs d old fs d
at_start limit level old fs d names ps e h = record { pending = ps; operand = e; has = h; same = refl; as_deep = refl }

module _ (limit level : ℕ) (old : List OpenPart) (gs : List (Formula ℕ)) (operand : ℕ) (now rest : List OpenPart) (fs : List (Formula ℕ)) (d : ℕ) (reached : Reaches limit level old gs operand now fs d) where
  -- what stays joined so
  ended : (names : List (List ℕ)) (ps : List Pending) (e : Tree) (last : List OpenPart) (q : IsReached limit names level ps e now fs d) → last ≡ now → joined level q.pending q.operand ≡ (q.pending, q.operand)
      → IsJoined limit names (joined level ps e) (least ps (depth e)) (Ok d) last fs
  ended names ps e last q same is =
      subst (λ (r : List Pending × Tree). HasOperand limit names r.0 r.1 last fs d) (sym is ∙ q.same)
      (subst (λ x. HasOperand limit names q.pending q.operand x fs d) (sym same) q.has)

  pub not_more : (more : ℕ) (hs : List (Formula ℕ)) → now ≡ rest ++ Not ∷ [] → IsMade limit d NotPart fs (Ok more) hs → Reaches limit level old gs operand rest hs more
  not_more more hs h made names ps e k =
      let q = reached names ps e k in
      let top = not_on_top q.pending (reverse rest) (q.has.opened ∙ top_first now rest Not h) in
      let has = subst (λ x. HasOperand limit names x q.operand now fs d) top.1 q.has in
      record {
        pending = top.0;
        operand = Inverse q.operand;
        has = record {
          opened = top.2;
          built = subst (AreNamed names (formula_of (Inverse q.operand) ∷ held top.0)) (sym made.2) (opposite_named names (formula_of q.operand) (held top.0) fs has.built);
          small = has.small;
          depth_is = omega (arith, has.depth_is, made.0);
          shallow = omega (arith, made.0, made.1);
        };
        same = sym (ap (λ x. joined level x q.operand) top.1) ∙ q.same;
        as_deep = sym (ap (λ x. least x (depth q.operand)) top.1) ∙ q.as_deep;
      }

  pub not_stops : (s : Stop) (last : List OpenPart) (hs ks : List (Formula ℕ)) → now ≡ rest ++ Not ∷ [] → IsMade limit d NotPart fs (Err s) hs → IsJoining limit level old gs operand (Err s) last ks
  not_stops Form last hs ks h made names ps e k = absurd made
  not_stops Memory last hs ks h made names ps e k = tt
  not_stops Excess last hs ks h made names ps e k =
      let q = reached names ps e k in
      let top = not_on_top q.pending (reverse rest) (q.has.opened ∙ top_first now rest Not h) in
      let deep = sym (ap (λ x. least x (depth q.operand)) top.1) ∙ q.as_deep in
      omega (arith, made, q.has.depth_is, deep, at_least top.0 (depth q.operand + 1))

  pub operator_more : (o : OperatorValue) (left more : ℕ) (hs : List (Formula ℕ)) → now ≡ rest ++ Operator o left ∷ [] → level ≤ operator_level o → IsMade limit (max left d) (TwoPart (table_of o)) fs (Ok more) hs
      → Reaches limit level old gs operand rest hs more
  operator_more o left more hs h l made names ps e k =
      let q = reached names ps e k in
      let top = operator_on_top o left q.pending (reverse rest) (q.has.opened ∙ top_first now rest (Operator o left) h) in
      let has = subst (λ x. HasOperand limit names x q.operand now fs d) top.2 q.has in
      record {
        pending = top.1;
        operand = Two o top.0 q.operand;
        has = record {
          opened = top.4;
          built = subst (AreNamed names (formula_of (Two o top.0 q.operand) ∷ held top.1)) (sym made.2)
              (binary_named names (table_of o) (formula_of top.0) (formula_of q.operand) (held top.1) fs (operator_small o) has.built);
          small = swap (has_large_table top.0) (has_large_table q.operand) (has_large top.1) ∙ has.small;
          depth_is = omega (arith, has.depth_is, made.0, top.3);
          shallow = omega (arith, made.0, made.1);
        };
        same = sym (joined_on level o top.0 q.operand top.1 l) ∙ sym (ap (λ x. joined level x q.operand) top.2) ∙ q.same;
        as_deep = sym (ap (λ x. least x (depth q.operand)) top.2) ∙ q.as_deep;
      }

  pub operator_stops : (s : Stop) (o : OperatorValue) (left : ℕ) (last : List OpenPart) (hs ks : List (Formula ℕ)) → now ≡ rest ++ Operator o left ∷ [] → IsMade limit (max left d) (TwoPart (table_of o)) fs (Err s) hs
      → IsJoining limit level old gs operand (Err s) last ks
  operator_stops Form o left last hs ks h made names ps e k = absurd made
  operator_stops Memory o left last hs ks h made names ps e k = tt
  operator_stops Excess o left last hs ks h made names ps e k =
      let q = reached names ps e k in
      let top = operator_on_top o left q.pending (reverse rest) (q.has.opened ∙ top_first now rest (Operator o left) h) in
      let deep = sym (ap (λ x. least x (depth q.operand)) top.2) ∙ q.as_deep in
      omega (arith, made, q.has.depth_is, top.3, deep, at_least top.1 (max (depth top.0) (depth q.operand) + 1))

  pub operator_less : (o : OperatorValue) (left : ℕ) (last : List OpenPart) → now ≡ rest ++ Operator o left ∷ [] → last ≡ rest ++ Operator o left ∷ [] → operator_level o < level
      → IsJoining limit level old gs operand (Ok d) last fs
  operator_less o left last h g l names ps e k =
      let q = reached names ps e k in
      let top = operator_on_top o left q.pending (reverse rest) (q.has.opened ∙ top_first now rest (Operator o left) h) in
      ended names ps e last q (g ∙ sym h) (ap (λ x. joined level x q.operand) top.2 ∙ joined_off level o top.0 q.operand top.1 l ∙ ap (λ x. (x, q.operand)) (sym top.2))

  pub other_stays : (p : OpenPart) (last : List OpenPart) → now ≡ rest ++ p ∷ [] → last ≡ rest ++ p ∷ [] → IsOther p → IsJoining limit level old gs operand (Ok d) last fs
  other_stays p last h g i names ps e k =
      let q = reached names ps e k in
      ended names ps e last q (g ∙ sym h) (other_joined level q.pending q.operand p (reverse rest) (q.has.opened ∙ top_first now rest p h) i)

pub empty_stays : (limit level : ℕ) (old : List OpenPart) (gs : List (Formula ℕ)) (operand : ℕ) (now last : List OpenPart) (fs : List (Formula ℕ)) (d : ℕ) → Reaches limit level old gs operand now fs d → now ≡ [] → last ≡ []
    → IsJoining limit level old gs operand (Ok d) last fs
empty_stays limit level old gs operand now last fs d reached h g names ps e k =
    let q = reached names ps e k in
    ended limit level old gs operand now now fs d reached names ps e last q (g ∙ sym h) (none_joined level q.pending q.operand (q.has.opened ∙ ap reverse h))

pub no_memory : (s : Stop) (limit level : ℕ) (old : List OpenPart) (gs : List (Formula ℕ)) (operand : ℕ) (now : List OpenPart) (fs : List (Formula ℕ)) → s ≡ Memory → IsJoining limit level old gs operand (Err s) now fs
no_memory s limit level old gs operand now fs is names ps e k = subst (λ x. IsJoined limit names (joined level ps e) (least ps (depth e)) (Err x) now fs) (sym is) tt
