use Rattle.std.proofs.Common.{◌≡◌, ◌+◌, ap, ◌∙◌, ◌++◌, ◌∷◌, [], take, subst, sym}
use Rattle.std.proofs.lemmas.List.{take_more}
use Rattle.dn_crew.specs.Live.{Makes}
use Rattle.dn_crew.proofs.LiveLemmas.{makes_more}
use Rattle.dn_crew.proofs.delivering.work.Goals as goal

pub loop-bytes-preserved : goal.loop-bytes-preserved
loop-bytes-preserved g c =
    let i = c.loop-bytes.bytes-index in
    let xs = c.args.payloads.now in
    let h = c.in_ok-hand.ensures.handed in
    let at : take (i + 1) xs ≡ take i xs ++ c.bytes-item.result ∷ [] = take_more xs i c.bytes-item.result c.loop-bytes-test.true ∙ ap (λ b. take i xs ++ b ∷ []) (sym c.bytes-item.is) in
    let more = makes_more c.args.roster.now c.args.servers.now c.args.core.now c.loop-bytes.core c.hand.new.core (take i xs) c.bytes-item.result c.loop-bytes.made.items c.hand.new.made.items h.0 c.loop-bytes.invariant.made h.1 h.2 in
    record {
      seat = c.in_ok-hand.ensures.seat ∙ c.loop-bytes.invariant.seat;
      made = subst (λ l. Makes c.args.roster.now c.args.servers.now c.args.core.now l c.hand.new.made.items c.hand.new.core) (sym at) more;
    }
