use Rattle.std.proofs.Common.{◌≡◌, ℕ, ◌+◌, ◌-◌, ◌<◌, suc, List, [], ◌∷◌, ◌++◌, length, set, length-set, take, drop, drop-cons, get_or, sym, ap, ap₂, ◌∙◌, arith}
use Rattle.std.proofs.Math.Seq.{take-append_seam, drop-length}
use Rattle.copy_weights.specs.declared.form.Form.{Form}
use Rattle.copy_weights.specs.declared.form.Form.TheVariants.{Varying}
use Rattle.copy_weights.specs.Forms.{over, changes_of}
use Rattle.copy_weights.proofs.MakingLemmas.{unchanged, change_set}
use Rattle.copy_weights.proofs.making.with_changes.Goals as goal

-- the list from one place on, where places are counted from the end
drop_next : (cs : List (ℕ × Form)) (k : ℕ) → k < length cs → drop (length cs - (k + 1)) cs ≡ get_or cs (length cs - 1 - k) (0, Varying) ∷ drop (length cs - k) cs
drop_next cs k less =
    let i : ℕ = length cs - 1 - k in
    let here : length cs - (k + 1) ≡ length cs - 1 - k = omega arith in
    let next : suc (length cs - 1 - k) ≡ length cs - k = omega arith in
    ap (λ j. drop j cs) here ∙ drop-cons cs (length cs - 1 - k) (0, Varying) (omega arith) ∙ ap (λ j. get_or cs (length cs - 1 - k) (0, Varying) ∷ drop j cs) next

drop_all : (cs : List (ℕ × Form)) → drop (length cs - 0) cs ≡ []
drop_all cs = ap (λ j. drop j cs) (let same : length cs - 0 ≡ length cs = omega arith in same) ∙ drop-length cs

-- a list of which so many elements are written back
take_back : (n : ℕ) (xs ys : List Form) → length xs ≡ n → take n (xs ++ ys) ≡ xs
take_back n xs ys e = ap (λ m. take m (xs ++ ys)) (sym e) ∙ take-append_seam xs ys

pub loop-k-init : goal.loop-k-init
loop-k-init c = c.in_ok-list.ensures ∙ unchanged c.args.n ∙ ap (changes_of c.args.n) (sym (drop_all c.args.changes.now))

pub loop-k-preserved : goal.loop-k-preserved
loop-k-preserved c =
    let cs = c.args.changes.now in
    let d = get_or cs (length cs - 1 - c.loop-k.k) (0, Varying) in
    let new = c.set_form.new.list in
    let written : new ≡ set c.loop-k.list.items d.0 (over c.args.n d.1) = c.set_form.ensures ∙ ap₂ (λ l f. set l d.0 f) c.deref_mut.ensures.value c.over.ensures in
    let count : length new ≡ c.loop-k.list.len = ap length c.set_form.ensures ∙ length-set c.deref_mut.result.now d.0 c.over.result ∙ c.deref_mut.ensures.len in
    take_back c.loop-k.list.len new (drop (length new) c.loop-k.list.items) count
    ∙ written
    ∙ change_set c.args.n d (drop (length cs - c.loop-k.k) cs) c.loop-k.list.items c.loop-k.invariant
    ∙ ap (changes_of c.args.n) (sym (drop_next cs c.loop-k.k c.loop-k-test.true))
