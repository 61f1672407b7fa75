use Rattle.std.proofs.Common.{◌≡◌, ℕ, suc, ◌+◌, ◌<◌, [], ◌∷◌, ◌++◌, length, take, get_or, set, sym, ap, subst, arith}
use Rattle.std.proofs.lemmas.List.{length-take-le, take_more_set}
use Rattle.std.proofs.lemmas.Option.{slice_get-get_or}
use Rattle.diagram_store.specs.declared.triple_chains.Entry.{Entry}
use Rattle.diagram_store.specs.private.TripleChains.{bucket_of, IsLinked}
use Rattle.diagram_store.proofs.ChainLemmas.{linked_push, relinked, there_set}
use Rattle.diagram_store.proofs.triple_chains.link_one.Goals as goal

abbrev blank : Entry
blank = record { x = 0; y = 0; z = 0; value = 0; older = 0 }

pub returns-clause-linked : goal.returns-clause-linked
returns-clause-linked c =
    let heads = c.args.heads.now in
    let es = c.args.entries.now in
    let k = c.args.k in
    let e : Entry = get_or es k blank in
    let older : ℕ = get_or heads c.bucket-bucket.result 0 in
    let new : Entry = relinked e older in
    let is : c.bucket-bucket.result ≡ bucket_of (length heads) new = c.bucket-bucket.ensures.bucket in
    let count : k + 1 ≡ suc (length (take k es)) = omega (arith, length-take-le k es (omega (arith, c.requires.entry))) in
    let linked : IsLinked (set heads (bucket_of (length heads) new) (k + 1)) (take k es ++ new ∷ []) =
    linked_push heads (take k es) c.requires.linked new (subst (λ b. b < length heads) is c.bucket-bucket.ensures.within)
    (ap (λ b. get_or heads b 0) is) (k + 1) count in
    subst (λ xs. IsLinked (set heads c.bucket-bucket.result (k + 1)) xs) (sym (take_more_set es k new c.requires.entry))
    (subst (λ b. IsLinked (set heads b (k + 1)) (take k es ++ new ∷ [])) (sym is) linked)

pub returns-clause-known : goal.returns-clause-known
returns-clause-known c = λ x y z.
    there_set c.args.entries.now c.args.k (get_or c.args.entries.now c.args.k blank) (get_or c.args.heads.now c.bucket-bucket.result 0)
    (slice_get-get_or c.args.entries.now c.args.k blank c.requires.entry) (x, y, z)
