use Rattle.std.proofs.Common.{◌<◌, length, refl, sym, ap, ◌∙◌, subst, arith}
use Rattle.std.specs.Ordering.{eq_by_cmp}
use Rattle.std.proofs.lemmas.Option.{slice_get_read}
use Rattle.key_rows.proofs.ChainLemmas.{IsWalked, mine, test, to_go, last_where-map, walk_starts, walk_inside, walk_found, walk_goes_on, walk_nears_its_end, walk_ends}
use Rattle.key_rows.proofs.keyed.walk_along.Goals as goal

pub chain-init : goal.chain-init
chain-init g c =
    walk_starts g.T.Keyed.key_of (eq_by_cmp g.K.Ord.cmp) g.K.Key.spread c.args.round (λ a b. g.met.K.Key.alike c.args.round a b) c.args.key c.args.cells.now c.args.heads.now c.requires.chained c.chain_end-at.result c.chain_end-at.ensures

pub offset_bounds-cells-k : goal.offset_bounds-cells-k
offset_bounds-cells-k g c =
    let P = IsWalked (test g.T.Keyed.key_of g.K.Key.spread c.args.round c.args.key c.args.heads.now) (mine g.T.Keyed.key_of (eq_by_cmp g.K.Ord.cmp) c.args.key) c.args.cells.now in
    omega (arith, walk_inside g.T.Keyed.key_of (eq_by_cmp g.K.Ord.cmp) g.K.Key.spread c.args.round (λ a b. g.met.K.Key.alike c.args.round a b) c.args.key c.args.cells.now c.args.heads.now c.requires.chained c.in-Some.k (subst P c.in-Some.is c.chain.invariant))

pub bounds-cells-k : goal.bounds-cells-k
bounds-cells-k g c =
    let P = IsWalked (test g.T.Keyed.key_of g.K.Key.spread c.args.round c.args.key c.args.heads.now) (mine g.T.Keyed.key_of (eq_by_cmp g.K.Ord.cmp) c.args.key) c.args.cells.now in
    walk_inside g.T.Keyed.key_of (eq_by_cmp g.K.Ord.cmp) g.K.Key.spread c.args.round (λ a b. g.met.K.Key.alike c.args.round a b) c.args.key c.args.cells.now c.args.heads.now c.requires.chained c.in-Some.k (subst P c.in-Some.is c.chain.invariant)

pub returns-then-is_key-clause-found : goal.returns-then-is_key-clause-found
returns-then-is_key-clause-found g c =
    let P = IsWalked (test g.T.Keyed.key_of g.K.Key.spread c.args.round c.args.key c.args.heads.now) (mine g.T.Keyed.key_of (eq_by_cmp g.K.Ord.cmp) c.args.key) c.args.cells.now in
    walk_found g.T.Keyed.key_of (eq_by_cmp g.K.Ord.cmp) g.K.Key.spread c.args.round (λ a b. g.met.K.Key.alike c.args.round a b) c.args.key c.args.cells.now c.args.heads.now c.requires.chained c.in-Some.k (subst P c.in-Some.is c.chain.invariant)
    c.index-cells-k.result
    (slice_get_read c.args.cells.now (length c.args.cells.now) c.in-Some.k c.index-cells-k.result refl (walk_inside g.T.Keyed.key_of (eq_by_cmp g.K.Ord.cmp) g.K.Key.spread c.args.round (λ a b. g.met.K.Key.alike c.args.round a b) c.args.key c.args.cells.now c.args.heads.now c.requires.chained c.in-Some.k (subst P c.in-Some.is c.chain.invariant)) c.index-cells-k.is)
    (ap (eq_by_cmp g.K.Ord.cmp c.args.key) (sym c.key.ensures) ∙ sym c.is_key.ensures ∙ c.if-is_key.true)
    ∙ sym (last_where-map _ _ c.args.cells.now)

pub chain-smaller : goal.chain-smaller
chain-smaller g c =
    let P = IsWalked (test g.T.Keyed.key_of g.K.Key.spread c.args.round c.args.key c.args.heads.now) (mine g.T.Keyed.key_of (eq_by_cmp g.K.Ord.cmp) c.args.key) c.args.cells.now in
    subst (λ o. to_go o < to_go c.chain.at) (sym c.get-at.ensures)
    (subst (λ o. to_go c.index-cells-k.result.before < to_go o) (sym c.in-Some.is)
    (walk_nears_its_end g.T.Keyed.key_of (eq_by_cmp g.K.Ord.cmp) g.K.Key.spread c.args.round (λ a b. g.met.K.Key.alike c.args.round a b) c.args.key c.args.cells.now c.args.heads.now c.requires.chained c.in-Some.k (subst P c.in-Some.is c.chain.invariant)
    c.index-cells-k.result
    (slice_get_read c.args.cells.now (length c.args.cells.now) c.in-Some.k c.index-cells-k.result refl (walk_inside g.T.Keyed.key_of (eq_by_cmp g.K.Ord.cmp) g.K.Key.spread c.args.round (λ a b. g.met.K.Key.alike c.args.round a b) c.args.key c.args.cells.now c.args.heads.now c.requires.chained c.in-Some.k (subst P c.in-Some.is c.chain.invariant)) c.index-cells-k.is)))

pub chain-preserved : goal.chain-preserved
chain-preserved g c =
    let P = IsWalked (test g.T.Keyed.key_of g.K.Key.spread c.args.round c.args.key c.args.heads.now) (mine g.T.Keyed.key_of (eq_by_cmp g.K.Ord.cmp) c.args.key) c.args.cells.now in
    subst P (sym c.get-at.ensures)
    (walk_goes_on g.T.Keyed.key_of (eq_by_cmp g.K.Ord.cmp) g.K.Key.spread c.args.round (λ a b. g.met.K.Key.alike c.args.round a b) c.args.key c.args.cells.now c.args.heads.now c.requires.chained c.in-Some.k (subst P c.in-Some.is c.chain.invariant)
    c.index-cells-k.result
    (slice_get_read c.args.cells.now (length c.args.cells.now) c.in-Some.k c.index-cells-k.result refl (walk_inside g.T.Keyed.key_of (eq_by_cmp g.K.Ord.cmp) g.K.Key.spread c.args.round (λ a b. g.met.K.Key.alike c.args.round a b) c.args.key c.args.cells.now c.args.heads.now c.requires.chained c.in-Some.k (subst P c.in-Some.is c.chain.invariant)) c.index-cells-k.is)
    (ap (eq_by_cmp g.K.Ord.cmp c.args.key) (sym c.key.ensures) ∙ sym c.is_key.ensures ∙ c.if-is_key.false))

pub returns-clause-found : goal.returns-clause-found
returns-clause-found g c =
    let P = IsWalked (test g.T.Keyed.key_of g.K.Key.spread c.args.round c.args.key c.args.heads.now) (mine g.T.Keyed.key_of (eq_by_cmp g.K.Ord.cmp) c.args.key) c.args.cells.now in
    walk_ends g.T.Keyed.key_of (eq_by_cmp g.K.Ord.cmp) g.K.Key.spread c.args.round (λ a b. g.met.K.Key.alike c.args.round a b) c.args.key c.args.cells.now c.args.heads.now c.requires.chained (subst P c.in_default.is c.chain.invariant)
    ∙ sym (last_where-map _ _ c.args.cells.now)
