use Rattle.std.proofs.Common.{◌≡◌, ℕ, suc, ◌<◌, [], ◌∷◌, ◌++◌, List, length, get_or, set, sym, ap, ◌∙◌, subst, arith}
use Rattle.std.proofs.lemmas.List.{length-set, length-append}
use Rattle.diagram_store.specs.declared.triple_chains.Entry.{Entry}
use Rattle.diagram_store.specs.TripleTables.{newest_there}
use Rattle.diagram_store.specs.private.TripleChains.{bucket_of, IsLinked, IsChained}
use Rattle.diagram_store.proofs.ChainLemmas.{linked_push, there_chosen}
use Rattle.diagram_store.proofs.triple_chains.add.Goals as goal

added : goal.After-len → Entry
added c = record {
  x = c.args.x;
  y = c.args.y;
  z = c.args.z;
  value = c.args.value;
  older = get_or c.args.heads.now c.bucket-bucket.result 0;
}

pub returns-clause-chained : goal.returns-clause-chained
unfolding added
returns-clause-chained c =
    let heads = c.args.heads.now in
    let es = c.args.entries.now.items in
    let b : ℕ = bucket_of (length heads) (added c) in
    let is : c.bucket-bucket.result ≡ b = c.bucket-bucket.ensures.bucket in
    let items : c.push.new.self.items ≡ es ++ added c ∷ [] = c.in_ok-push.ensures.items in
    let count : c.len.result ≡ suc (length es) = c.len.ensures ∙ c.push.new.self.ok.0 ∙ ap (λ xs. length xs) items ∙ omega (arith, length-append es (added c ∷ [])) in
    let linked : IsLinked (set heads b c.len.result) (es ++ added c ∷ []) =
    linked_push heads es c.requires.chained.linked (added c) (subst (λ k. k < length heads) is c.bucket-bucket.ensures.within)
    (ap (λ k. get_or heads k 0) is) c.len.result count in
    let P : List Entry → Type 0 = λ xs. IsChained (set heads c.bucket-bucket.result c.len.result) xs in
    subst P (sym items) (record {
      linked = subst (λ k. IsLinked (set heads k c.len.result) (es ++ added c ∷ [])) (sym is) linked;
      room = omega (arith, c.requires.room, length-append es (added c ∷ []), length-set heads c.bucket-bucket.result c.len.result);
    })

pub returns-clause-ok : goal.returns-clause-ok
unfolding added
returns-clause-ok c = λ x y z.
    let items : c.push.new.self.items ≡ c.args.entries.now.items ++ added c ∷ [] = c.in_ok-push.ensures.items in
    ap (λ xs. newest_there xs (x, y, z)) items ∙ there_chosen c.args.entries.now.items (added c) (x, y, z)
