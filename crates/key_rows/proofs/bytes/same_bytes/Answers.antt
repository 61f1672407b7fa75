use Rattle.std.proofs.Common.{◌≡◌, ℕ, ◌+◌, ◌*◌, List, drop, sym, ap, ◌∙◌, w64, arith}
use Rattle.std.specs.Prelude.{bytes_eq}
use Rattle.std.specs.Int.{to_le_bytes}
use Rattle.key_rows.proofs.WordLemmas.{behind_word}
use Rattle.key_rows.proofs.bytes.same_bytes.Goals as goal

pub loop-k-preserved : goal.loop-k-preserved
loop-k-preserved c =
    let a : List ℕ = c.args.a.now in
    let b : List ℕ = c.args.b.now in
    let i : ℕ = 8 * c.loop-k.k in
    let next : i + 8 ≡ 8 * (c.loop-k.k + 1) = omega arith in
    ap (λ n. bytes_eq (drop n a) (drop n b)) (sym next)
    ∙ sym (behind_word a b i (sym c.word_at.ensures.bytes ∙ ap (to_le_bytes w64) c.if-word_at.false ∙ c.word_at-in-loop-k.ensures.bytes))
    ∙ c.loop-k.invariant
