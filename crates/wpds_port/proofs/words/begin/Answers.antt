use Rattle.std.proofs.Common.{◌≡◌, ◌∙◌, ◌-◌, ◌==◌, false, None, sym, ap, subst, inl, inr, take, drop, length, ℕ, List}
use Rattle.std.specs.Prelude.{IsTrue}
use Rattle.std.proofs.lemmas.Bool.{eqb-false}
use Rattle.wpds_port.specs.Tokens.{word_text, word_at, Word, begins_said}
use Rattle.wpds_port.specs.Words.{word_of, IsNext}
use Rattle.wpds_port.proofs.TokenLemmas.{rest_of_line}
use Rattle.wpds_port.proofs.TextLemmas.{begun_by, unknown_front}
use Rattle.wpds_port.proofs.words.begin.Goals as goal

pub returns-in-Some : goal.returns-in-Some
returns-in-Some c =
    let text = c.args.text.now in
    let k : ℕ = c.blanks_len.result in
    let said : List ℕ = take (length text - k) (drop k text) in
    let w : Word = word_of c.in-Some.lexeme in
    let n : ℕ = length c.text.result.now in
    let size : n ≡ length (word_text w) = ap length c.text.ensures in
    let rest : take (length said - n) (drop n said) ≡ drop (length (word_text w)) said =
    rest_of_line n said ∙ ap (λ m. drop m said) size in
    subst (IsNext text w) (sym rest)
    (begun_by text said k w (rest_of_line k text) c.blanks_len.ensures.blanks (sym c.in-Some.ensures.word)).next

pub returns-in-None : goal.returns-in-None
returns-in-None c =
    let text = c.args.text.now in
    let k : ℕ = c.blanks_len.result in
    let said : List ℕ = take (length text - k) (drop k text) in
    let same : said ≡ drop k text = rest_of_line k text in
    let none : word_at said ≡ None = sym c.in-None.ensures.word in
    let some : (length said == 0) ≡ false = sym c.if-is_empty.ensures in
    elim c.blanks_len.ensures.then [
      | inl e ↦ absurd (eqb-false (length said) 0 some (ap length (same ∙ e)))
      | inr h ↦ unknown_front text said k same c.blanks_len.ensures.blanks (subst (λ x. IsTrue (begins_said x)) (sym same) h) none
    ]
