use Rattle.std.proofs.Common.{◌≡◌, ℕ, ◌+◌, List, [], ◌∷◌, ap, sym, ◌∙◌, drop, slice_index_or, arith}
use Rattle.std.specs.Prelude.{bytes_eq, ◌&&◌}
use Rattle.std.proofs.lemmas.Bool.{eq-eqb}
use Rattle.std.proofs.lemmas.List.{drop_more, drop_all}
use Rattle.key_rows.proofs.bytes.same_rest.Goals as goal

-- behind a byte that is the same
behind : (x y : ℕ) (xs ys : List ℕ) → x ≡ y → bytes_eq (x ∷ xs) (y ∷ ys) ≡ bytes_eq xs ys
behind x y xs ys e = ap (λ t. t && bytes_eq xs ys) (eq-eqb x y e)

pub loop-i-preserved : goal.loop-i-preserved
loop-i-preserved c =
    let a : List ℕ = c.args.a.now in
    let b : List ℕ = c.args.b.now in
    let i : ℕ = c.loop-i.i in
    sym (behind (slice_index_or a i 0) (slice_index_or b i 0) (drop (i + 1) a) (drop (i + 1) b) c.if-a-i.false)
    ∙ sym
    (ap (λ xs. bytes_eq xs (drop i b)) (drop_more a i 0 c.loop-i-test.true)
    ∙ ap (λ ys. bytes_eq (slice_index_or a i 0 ∷ drop (i + 1) a) ys) (drop_more b i 0 (omega (arith, c.requires, c.loop-i-test.true))))
    ∙ c.loop-i.invariant

pub returns : goal.returns
returns c =
    let a : List ℕ = c.args.a.now in
    let b : List ℕ = c.args.b.now in
    let i : ℕ = c.loop-i.i in
    sym
    (ap (λ xs. bytes_eq xs (drop i b)) (drop_all i a c.loop-i-test.false)
    ∙ ap (λ ys. bytes_eq [] ys) (drop_all i b (omega (arith, c.requires, c.loop-i-test.false))))
    ∙ c.loop-i.invariant
