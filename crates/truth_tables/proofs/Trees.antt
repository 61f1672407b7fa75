-- What a tree writes is read as that tree.
use Rattle.std.proofs.Common.{◌≡◌, ℕ, ◌<◌, ◌≤◌, true, false, not, ◌&&◌, ◌||◌, List, [], ◌∷◌, ◌++◌, Option, Some, None, refl, sym, ap, ◌∙◌, arith, append-nil, append_assoc}
use Rattle.std.proofs.lemmas.Bool.{and_parts, leb-true, le-leb, lt-leb, or_parts, not-true}
use Rattle.std.specs.Prelude.{codes, nat_le, bytes_eq}
use Rattle.wpds_port.specs.declared.Mark.TheVariants.{Comma, Close}
use Rattle.wpds_port.specs.declared.Word.{Word}
use Rattle.wpds_port.specs.declared.Word.TheVariants.{Name, Mark as Sign}
use Rattle.truth_tables.specs.Grammar.{Operator, ThenOperator, SameOperator, OtherOperator, OrOperator, XorOperator, AndOperator, operator_mark, operator_level, least_left, least_right, level, Tree, Constant, Variable, Bracket, Inverse, Two, Table2, Table3, tree_words, is_grouped, is_expression_word}
use Rattle.truth_tables.specs.Stacks.{Pending, AfterNot, AfterOperator, InBracket, First2, Second2, First3, Second3, Third3, Reading, Wants, Has, joined, after_operator, behind_operand, next_reading, tree_from, tree_of, at_name, at_comma, at_close, alone}

-- ---- levels

pub least_left_bounds : (o : Operator) → (1 ≤ least_left o) × (least_left o ≤ 5) × (operator_level o ≤ least_left o)
least_left_bounds ThenOperator = (omega arith, omega arith, omega arith)
least_left_bounds SameOperator = (omega arith, omega arith, omega arith)
least_left_bounds OtherOperator = (omega arith, omega arith, omega arith)
least_left_bounds OrOperator = (omega arith, omega arith, omega arith)
least_left_bounds XorOperator = (omega arith, omega arith, omega arith)
least_left_bounds AndOperator = (omega arith, omega arith, omega arith)

pub least_right_bounds : (o : Operator) → (operator_level o ≤ least_right o) × (least_right o ≤ 6) × (1 ≤ operator_level o) × (operator_level o ≤ 5)
least_right_bounds ThenOperator = (omega arith, omega arith, omega arith, omega arith)
least_right_bounds SameOperator = (omega arith, omega arith, omega arith, omega arith)
least_right_bounds OtherOperator = (omega arith, omega arith, omega arith, omega arith)
least_right_bounds OrOperator = (omega arith, omega arith, omega arith, omega arith)
least_right_bounds XorOperator = (omega arith, omega arith, omega arith, omega arith)
least_right_bounds AndOperator = (omega arith, omega arith, omega arith, omega arith)

-- an operand on the right of p, by the operator o: p is not closed by o, and the other way round
pub not_closed : (p o : Operator) → least_right p ≤ operator_level o → operator_level p < least_left o
not_closed ThenOperator ThenOperator h = omega arith
not_closed ThenOperator SameOperator h = omega arith
not_closed ThenOperator OtherOperator h = omega arith
not_closed ThenOperator OrOperator h = omega arith
not_closed ThenOperator XorOperator h = omega arith
not_closed ThenOperator AndOperator h = omega arith
not_closed SameOperator o h = let b = least_left_bounds o in omega arith
not_closed OtherOperator o h = let b = least_left_bounds o in omega arith
not_closed OrOperator o h = let b = least_left_bounds o in omega arith
not_closed XorOperator o h = let b = least_left_bounds o in omega arith
not_closed AndOperator o h = let b = least_left_bounds o in omega arith

pub level_bounds : (e : Tree) → (1 ≤ level e) × (level e ≤ 7)
level_bounds (Two o a b) = let h = least_right_bounds o in (omega arith, omega arith)
level_bounds (Inverse e) = (omega arith, omega arith)
level_bounds (Constant b) = (omega arith, omega arith)
level_bounds (Variable x) = (omega arith, omega arith)
level_bounds (Bracket e) = (omega arith, omega arith)
level_bounds (Table2 n a b) = (omega arith, omega arith)
level_bounds (Table3 n a b c) = (omega arith, omega arith)

-- ---- what grouped says of the parts

pub record TwoParts (o : Operator) (a b : Tree) : Type 0 where
  pub left : is_grouped a ≡ true
  pub right : is_grouped b ≡ true
  pub left_level : least_left o ≤ level a
  pub right_level : least_right o ≤ level b

pub two_parts : (o : Operator) (a b : Tree) → is_grouped (Two o a b) ≡ true → TwoParts o a b
two_parts o a b g =
    let h = and_parts (is_grouped a && is_grouped b && nat_le (least_left o) (level a)) (nat_le (least_right o) (level b)) g in
    let k = and_parts (is_grouped a && is_grouped b) (nat_le (least_left o) (level a)) h.0 in
    let l = and_parts (is_grouped a) (is_grouped b) k.0 in
    record { left = l.0; right = l.1; left_level = leb-true (least_left o) (level a) k.1; right_level = leb-true (least_right o) (level b) h.1 }

-- ---- what stands open behind the last operand

abbrev pub opened : Tree → List Pending → List Pending × Tree
opened (Two o a b) ps = opened b (AfterOperator o a ∷ ps)
opened (Inverse e) ps = opened e (AfterNot ∷ ps)
opened e ps = (ps, e)

-- the top of the stack binds less
abbrev pub TopBelow : ℕ → List Pending → Type 0
TopBelow k (AfterNot ∷ ps) = ⊥
TopBelow k (AfterOperator o a ∷ ps) = operator_level o < k
TopBelow k ps = Unit {0}

-- an operand of this level can stand on the top
abbrev pub Takes : List Pending → ℕ → Type 0
Takes (AfterNot ∷ ps) l = 6 ≤ l
Takes (AfterOperator o a ∷ ps) l = least_right o ≤ l
Takes ps l = Unit {0}

abbrev pub joined_pair : ℕ → List Pending × Tree → List Pending × Tree
joined_pair k r = joined k r.0 r.1

pub joined_below : (k : ℕ) (ps : List Pending) (e : Tree) → TopBelow k ps → joined k ps e ≡ (ps, e)
joined_below k [] e h = refl
joined_below k (AfterNot ∷ ps) e h = absurd h
joined_below k (AfterOperator o a ∷ ps) e h = rw (lt-leb k (operator_level o) h, joined) refl
joined_below k (InBracket ∷ ps) e h = refl
joined_below k (First2 n ∷ ps) e h = refl
joined_below k (Second2 n a ∷ ps) e h = refl
joined_below k (First3 n ∷ ps) e h = refl
joined_below k (Second3 n a ∷ ps) e h = refl
joined_below k (Third3 n a b ∷ ps) e h = refl

-- joining an operand's open parts gives the operand
pub joined-opened : (k : ℕ) (e : Tree) (ps : List Pending) → is_grouped e ≡ true → k ≤ 6 → k ≤ level e → joined_pair k (opened e ps) ≡ joined k ps e
joined-opened k (Two o a b) ps g s l =
    let h = two_parts o a b g in
    let m = least_right_bounds o in
    joined-opened k b (AfterOperator o a ∷ ps) h.right s (omega arith) ∙ rw (le-leb k (operator_level o) l, joined) refl
joined-opened k (Inverse e) ps g s l =
    let h = and_parts (is_grouped e) (nat_le 6 (level e)) g in
    let m : 6 ≤ level e = leb-true 6 (level e) h.1 in
    joined-opened k e (AfterNot ∷ ps) h.0 s (omega arith)
joined-opened k (Constant b) ps g s l = refl
joined-opened k (Variable x) ps g s l = refl
joined-opened k (Bracket e) ps g s l = refl
joined-opened k (Table2 n a b) ps g s l = refl
joined-opened k (Table3 n a b c) ps g s l = refl

pub takes_more : (ps : List Pending) (l m : ℕ) → Takes ps l → l ≤ m → Takes ps m
takes_more [] l m t h = tt
takes_more (AfterNot ∷ ps) l m t h = omega arith
takes_more (AfterOperator o a ∷ ps) l m t h = omega arith
takes_more (InBracket ∷ ps) l m t h = tt
takes_more (First2 n ∷ ps) l m t h = tt
takes_more (Second2 n a ∷ ps) l m t h = tt
takes_more (First3 n ∷ ps) l m t h = tt
takes_more (Second3 n a ∷ ps) l m t h = tt
takes_more (Third3 n a b ∷ ps) l m t h = tt

pub takes_top : (ps : List Pending) (o : Operator) → Takes ps (operator_level o) → TopBelow (least_left o) ps
takes_top [] o t = tt
takes_top (AfterNot ∷ ps) o t = let b = least_right_bounds o in absurd (omega arith)
takes_top (AfterOperator p a ∷ ps) o t = not_closed p o t
takes_top (InBracket ∷ ps) o t = tt
takes_top (First2 n ∷ ps) o t = tt
takes_top (Second2 n a ∷ ps) o t = tt
takes_top (First3 n ∷ ps) o t = tt
takes_top (Second3 n a ∷ ps) o t = tt
takes_top (Third3 n a b ∷ ps) o t = tt

behind_operator : (o : Operator) (ps : List Pending) (e : Tree) → behind_operand (operator_mark o) ps e ≡ Some (after_operator o (joined (least_left o) ps e))
behind_operator ThenOperator ps e = refl
behind_operator SameOperator ps e = refl
behind_operator OtherOperator ps e = refl
behind_operator OrOperator ps e = refl
behind_operator XorOperator ps e = refl
behind_operator AndOperator ps e = refl

-- where the reading goes from a next reading
abbrev pub onward : Option Reading → List Word → Option Tree
onward None ws = None
onward (Some r) ws = tree_from r ws

pub onward_step : (r : Reading) (w : Word) (ws : List Word) → tree_from r (w ∷ ws) ≡ onward (next_reading r w) ws
onward_step r w ws = go (next_reading r w)
  where
    go : (o : Option Reading) → elim o [ None ↦ None | Some q ↦ tree_from q ws ] ≡ onward o ws
    go None = refl
    go (Some q) = refl

operator_step : (o : Operator) (r : List Pending × Tree) (ws : List Word) → tree_from (Has r.0 r.1) (Sign (operator_mark o) ∷ ws) ≡ tree_from (after_operator o (joined_pair (least_left o) r)) ws
operator_step o r ws = onward_step (Has r.0 r.1) (Sign (operator_mark o)) ws ∙ ap (λ x. onward x ws) (behind_operator o r.0 r.1)

-- behind an operand at a comma or a closing bracket, where the operand is joined
comma_step : (e : Tree) (ps : List Pending) (ws : List Word) → is_grouped e ≡ true → tree_from (Has (opened e ps).0 (opened e ps).1) (Sign Comma ∷ ws) ≡ tree_from (Has ps e) (Sign Comma ∷ ws)
comma_step e ps ws g =
    onward_step (Has (opened e ps).0 (opened e ps).1) (Sign Comma) ws
    ∙ ap (λ (r : List Pending × Tree). onward (at_comma r.0 r.1) ws) (joined-opened 1 e ps g (omega arith) (level_bounds e).0)
    ∙ sym (onward_step (Has ps e) (Sign Comma) ws)

close_step : (e : Tree) (ps : List Pending) (ws : List Word) → is_grouped e ≡ true → tree_from (Has (opened e ps).0 (opened e ps).1) (Sign Close ∷ ws) ≡ tree_from (Has ps e) (Sign Close ∷ ws)
close_step e ps ws g =
    onward_step (Has (opened e ps).0 (opened e ps).1) (Sign Close) ws
    ∙ ap (λ (r : List Pending × Tree). onward (at_close r.0 r.1) ws) (joined-opened 1 e ps g (omega arith) (level_bounds e).0)
    ∙ sym (onward_step (Has ps e) (Sign Close) ws)

at_variable : (ps : List Pending) (x : List ℕ) → not (is_expression_word x) ≡ true → at_name ps x ≡ Some (Has ps (Variable x))
at_variable ps x g =
    let h = or_parts (bytes_eq x (codes "return") || bytes_eq x (codes "tab2")) (bytes_eq x (codes "tab3")) (not-true (is_expression_word x) g) in
    let k = or_parts (bytes_eq x (codes "return")) (bytes_eq x (codes "tab2")) h.0 in
    rw (k.0, k.1, h.1) refl

pub three : (a b c d : List Word) → ((a ++ b) ++ c) ++ d ≡ a ++ (b ++ (c ++ d))
three a b c d = append_assoc (a ++ b) c d ∙ append_assoc a b (c ++ d)

pub four : (a b c d e : List Word) → (((a ++ b) ++ c) ++ d) ++ e ≡ a ++ (b ++ (c ++ (d ++ e)))
four a b c d e = append_assoc ((a ++ b) ++ c) d e ∙ three a b c (d ++ e)

pub reads : (e : Tree) (ps : List Pending) (rest : List Word) → is_grouped e ≡ true → Takes ps (level e) → tree_from (Wants ps) (tree_words e ++ rest) ≡ tree_from (Has (opened e ps).0 (opened e ps).1) rest
reads (Constant true) ps rest g t = refl
reads (Constant false) ps rest g t = refl
reads (Variable x) ps rest g t = onward_step (Wants ps) (Name x) rest ∙ ap (λ o. onward o rest) (at_variable ps x g)
reads (Bracket e) ps rest g t =
    ap (λ x. tree_from (Wants (InBracket ∷ ps)) x) (append_assoc (tree_words e) (Sign Close ∷ []) rest)
    ∙ reads e (InBracket ∷ ps) (Sign Close ∷ rest) g tt
    ∙ close_step e (InBracket ∷ ps) rest g
reads (Inverse e) ps rest g t =
    let h = and_parts (is_grouped e) (nat_le 6 (level e)) g in
    let m : 6 ≤ level e = leb-true 6 (level e) h.1 in
    reads e (AfterNot ∷ ps) rest h.0 m
reads (Two o a b) ps rest g t =
    let h = two_parts o a b g in
    let l = least_left_bounds o in
    let m = least_right_bounds o in
    let ta : Takes ps (level a) = takes_more ps (operator_level o) (level a) t (omega arith) in
    let joins : joined_pair (least_left o) (opened a ps) ≡ (ps, a) = joined-opened (least_left o) a ps h.left (omega arith) h.left_level ∙ joined_below (least_left o) ps a (takes_top ps o t) in
    ap (λ x. tree_from (Wants ps) x) (append_assoc (tree_words a) (Sign (operator_mark o) ∷ tree_words b) rest)
    ∙ reads a ps (Sign (operator_mark o) ∷ tree_words b ++ rest) h.left ta
    ∙ operator_step o (opened a ps) (tree_words b ++ rest)
    ∙ ap (λ x. tree_from (after_operator o x) (tree_words b ++ rest)) joins
    ∙ reads b (AfterOperator o a ∷ ps) rest h.right h.right_level
reads (Table2 n a b) ps rest g t =
    let h = and_parts (is_grouped a) (is_grouped b) g in
    ap (λ x. tree_from (Wants (First2 n ∷ ps)) x) (three (tree_words a) (Sign Comma ∷ tree_words b) (Sign Close ∷ []) rest)
    ∙ reads a (First2 n ∷ ps) (Sign Comma ∷ (tree_words b ++ Sign Close ∷ rest)) h.0 tt
    ∙ comma_step a (First2 n ∷ ps) (tree_words b ++ Sign Close ∷ rest) h.0
    ∙ reads b (Second2 n a ∷ ps) (Sign Close ∷ rest) h.1 tt
    ∙ close_step b (Second2 n a ∷ ps) rest h.1
reads (Table3 n a b c) ps rest g t =
    let h = and_parts (is_grouped a && is_grouped b) (is_grouped c) g in
    let k = and_parts (is_grouped a) (is_grouped b) h.0 in
    ap (λ x. tree_from (Wants (First3 n ∷ ps)) x) (four (tree_words a) (Sign Comma ∷ tree_words b) (Sign Comma ∷ tree_words c) (Sign Close ∷ []) rest)
    ∙ reads a (First3 n ∷ ps) (Sign Comma ∷ (tree_words b ++ Sign Comma ∷ (tree_words c ++ Sign Close ∷ rest))) k.0 tt
    ∙ comma_step a (First3 n ∷ ps) (tree_words b ++ Sign Comma ∷ (tree_words c ++ Sign Close ∷ rest)) k.0
    ∙ reads b (Second3 n a ∷ ps) (Sign Comma ∷ (tree_words c ++ Sign Close ∷ rest)) k.1 tt
    ∙ comma_step b (Second3 n a ∷ ps) (tree_words c ++ Sign Close ∷ rest) k.1
    ∙ reads c (Third3 n a b ∷ ps) (Sign Close ∷ rest) h.1 tt
    ∙ close_step c (Third3 n a b ∷ ps) rest h.1

-- a tree's words are read as that tree
pub tree_of-words : (e : Tree) → is_grouped e ≡ true → tree_of (tree_words e) ≡ Some e
tree_of-words e g =
    ap (λ x. tree_from (Wants []) x) (sym (append-nil (tree_words e)))
    ∙ reads e [] [] g tt
    ∙ ap (λ (r : List Pending × Tree). alone r.0 r.1) (joined-opened 1 e [] g (omega arith) (level_bounds e).0)

-- two trees with the same words are one tree
pub one_tree : (d e : Tree) → is_grouped d ≡ true → is_grouped e ≡ true → tree_words d ≡ tree_words e → d ≡ e
one_tree d e g h same = some_same (sym (tree_of-words d g) ∙ ap tree_of same ∙ tree_of-words e h)
  where
    some_same : Some d ≡ Some e → d ≡ e
    some_same q = cc
