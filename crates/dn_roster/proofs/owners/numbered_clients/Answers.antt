use Rattle.std.proofs.Common.{◌≡◌, ℕ, ◌++◌, ◌∷◌, [], ◌∙◌, sym, arith}
use Rattle.std.proofs.lemmas.List.FromFn.{map-range_with_len_more}
use Rattle.dn_roster.specs.Owners.{client_id, numbered}
use Rattle.dn_roster.proofs.owners.numbered_clients.Goals as goal

pub loop-i-preserved : goal.loop-i-preserved
loop-i-preserved c =
    let f = λ (i : ℕ). numbered c.args.group.now.seed (client_id i) in
    let pushed : c.push.new.self.items ≡ c.loop-i.clients.items ++ (c.owner_number.result, client_id c.loop-i.i) ∷ [] = c.in_ok-push.ensures.items in
    pushed ∙ (λ i. c.loop-i.invariant i ++ (c.owner_number.ensures i, client_id c.loop-i.i) ∷ []) ∙ sym (map-range_with_len_more f 0 c.loop-i.i c.loop-i.i (omega arith))
