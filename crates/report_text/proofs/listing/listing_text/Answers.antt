use Rattle.std.proofs.Common.{sym, ap, ◌∙◌, ◌++◌, subst}
use Rattle.std.specs.Str.{IsAscii}
use Rattle.std.proofs.lemmas.Str.{IsUtf8-from_ascii}
use Rattle.report_text.proofs.AsciiLemmas.{listing}
use Rattle.report_text.specs.Listings.{listing_text}
use Rattle.report_text.proofs.listing.listing_text.Goals as goal

pub unwrap-requires : goal.unwrap-requires
unwrap-requires c =
    let all = c.in_ok-add_listing.ensures ∙ ap (λ xs. xs ++ listing_text c.args.listing.now.side c.args.listing.now.nodes) c.new-text.ensures.items in
    c.from_utf8.ensures.succeeds (IsUtf8-from_ascii c.add_listing.new.text.items (subst IsAscii (sym all) (listing c.args.listing.now.side c.args.listing.now.nodes)))
