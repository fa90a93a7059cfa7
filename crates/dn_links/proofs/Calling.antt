-- What a call does at the servers, by what cores promise, follows the rules of runs.
use Rattle.std.proofs.Common.{◌≡◌, ◌≢◌, List, ◌++◌, refl, sym, ap, subst, ◌∙◌, inl, inr}
use Rattle.std.specs.Prelude.{Contains, Some, slice_get}
use Rattle.std.proofs.lemmas.Option.{same_Some}
use Rattle.std.proofs.lemmas.List.Elements.{All-contains, Contains-append_left, Contains-append_right}
use Rattle.dn_wire.specs.declared.ids.ClientId.{ClientId}
use Rattle.dn_wire.specs.declared.ids.ServerId.{ServerId}
use Rattle.dn_wire.specs.declared.ids.Round.{Round}
use Rattle.dn_wire.specs.declared.ids.SignerId.{SignerId}
use Rattle.dn_wire.specs.declared.ids.SignerId.TheVariants.{Server}
use Rattle.dn_told.specs.declared.told.WindowTold.{WindowTold}
use Rattle.dn_told.specs.declared.told.WindowTold.TheVariants as tolds
use Rattle.dn_record_types.specs.declared.inventory.Inventory.{Inventory}
use Rattle.dn_record_types.specs.declared.statement.Statement.{Statement}
use Rattle.dn_record_types.specs.declared.statement.Statement.TheVariants as kinds
use Rattle.dn_record_types.specs.declared.statement.WordTold.{WordTold}
use Rattle.dn_record_types.specs.declared.statement.WordTold.TheVariants as words
use Rattle.dn_seal.specs.Said.{SaidView}
use Rattle.dn_cert.specs.Chain.{bodies}
use Rattle.dn_cert.proofs.Orders.{All-from_contains}
use Rattle.dn_cert.proofs.ListLemmas.{Contains-from_map}
use Rattle.dn_server.specs.declared.claims.Claim.{Claim}
use Rattle.dn_exchange.specs.Closing.{inventory_of}
use Rattle.dn_report.specs.declared.outcome.Outcome.{Outcome}
use Rattle.dn_report.specs.declared.outcome.Outcome.TheVariants as outcomes
use Rattle.dn_headline.specs.Group.{IsHonestServer}
use Rattle.dn_headline.specs.Log.{Step}
use Rattle.dn_headline.specs.Run.{RunView, PlainMade, SumMade}
use Rattle.dn_headline.specs.Spoken.{WasSaid}
use Rattle.dn_headline.specs.Certified.{IsCertified}
use Rattle.dn_headline.specs.Submissions.{WasTold}
use Rattle.dn_headline.specs.Invariant.{Facts, ServerFacts, Kept, IsHeldChain, HeldIsPut, word_of}
use Rattle.dn_headline.specs.Step.{Grows, ChainFollows, ServersFollow}
use Rattle.dn_links.specs.Link.{IsLinked, StaysInRound, ServersCalled}
use Rattle.dn_headline.proofs.Growing.{certified_stays}
use Rattle.dn_links.proofs.Entries.{entry_in, claim_of}
use Rattle.dn_links.proofs.Linking.{record_fits}
use Rattle.dn_links.proofs.Moving.{still_linked}

-- what was told other than Repeat is a claim's word
word_from : (t : WindowTold) → t ≢ tolds.Repeat → (word : WordTold) × (word_of word ≡ t)
word_from tolds.Included n = (words.Included, refl)
word_from tolds.Late n = (words.Late, refl)
word_from tolds.Repeat n = absurd (n refl)

module _ (w : RunView) (f g : Facts) (history : List Step) (plains : List PlainMade) (sums : List SumMade) (lines : List Outcome) (fresh : ServerId → List Statement)
    (grows : Grows w (record { group = w.group; history = history; plains = plains; sums = sums }) lines) (held : HeldIsPut w f)
    (called : ServersCalled w (record { group = w.group; history = history; plains = plains; sums = sums }) f g lines fresh) where
  abbrev v : RunView
  v = record { group = w.group; history = history; plains = plains; sums = sums }

  module _ (j : ServerId) (h : IsHonestServer w.group j) where
    pub linked_after : IsLinked v j (called.after j)
    linked_after = still_linked w history plains sums lines grows j (called.before j) (called.after j) (called.linked j h) (called.moves j h)

    held_after : IsHeldChain v (called.after j).chain
    held_after =
        let was : IsHeldChain w (called.before j).chain = subst (λ (z : ServerFacts). IsHeldChain w z.chain) (called.facts_before j h) (held.servers j h) in
        let chain = called.chains j h in
        record {
          slots = chain.grows.slots ∙ was.slots;
          certified = All-from_contains (IsCertified v) (bodies (called.after j).chain) (λ b has. elim (chain.certified b has) [
            | inl old ↦ certified_stays w history plains sums lines grows b (All-contains (IsCertified w) (bodies (called.before j).chain) b was.certified old)
            | inr new ↦ new
          ]);
          one_each = chain.one_each;
        }

    new_in : (s : Statement) → Contains (fresh j) s → Contains (called.after j).signed s
    new_in s has = subst (λ (ss : List Statement). Contains ss s) (sym (called.signed j h)) (Contains-append_right (called.before j).signed (fresh j) s has)

    old_in : (s : Statement) → Contains (called.before j).signed s → Contains (called.after j).signed s
    old_in s has = subst (λ (ss : List Statement). Contains ss s) (sym (called.signed j h)) (Contains-append_left (called.before j).signed (fresh j) s has)

    -- a client that is told something in the call is told it in the round that stays
    tells_in_round : (i : ClientId) (r : Round) (told : WindowTold) → Contains lines (outcomes.Told i j r told) → StaysInRound v j (called.before j) (called.after j) lines
    tells_in_round i r told line = elim (called.moves j h).round [ inl stays ↦ stays | inr opens ↦ absurd (opens.none_told i r told line) ]

    one_word : (i : ClientId) (r : Round) (told again : WindowTold) → Contains lines (outcomes.Told i j r told) → WasTold v j i r again
        → told ≢ tolds.Repeat → again ≢ tolds.Repeat → told ≡ again
    one_word i r told again line b na nb =
        let stays = tells_in_round i r told line in
        let round : r ≡ (called.after j).run.r = stays.told i r told line ∙ sym stays.r in
        let first = word_from told na in
        let second = word_from again nb in
        let at : (t : WindowTold) (word : WordTold) → word_of word ≡ t → WasTold v j i r t → WasTold v j i (called.after j).run.r (word_of word) =
        λ t word is a. subst (λ (q : Round). WasTold v j i q (word_of word)) round (subst (λ (x : WindowTold). WasTold v j i r x) (sym is) a) in
        let one = linked_after.told i first.0 (at told first.0 first.1 (grows.told _ line)) in
        let two = linked_after.told i second.0 (at again second.0 second.1 b) in
        let same : one.0 ≡ two.0 = same_Some one.0 two.0 (same_Some (Some one.0) (Some two.0) (sym one.1 ∙ two.1)) in
        let word : first.0 ≡ second.0 = sym one.2 ∙ ap (λ (c : Claim). c.told) same ∙ two.2 in
        sym first.1 ∙ ap word_of word ∙ second.1

    -- a client told Included when the inventory is signed had been told so
    told_before : (i : ClientId) (r : Round) (u : Inventory) → Contains lines (outcomes.Told i j r tolds.Included) → u.r ≡ r
        → Contains (called.before j).signed (kinds.Inventory u) → WasTold w j i r tolds.Included
    told_before i r u line round signed =
        let stays = tells_in_round i r tolds.Included line in
        let of : r ≡ (called.before j).run.r = stays.told i r tolds.Included line in
        let was = (called.were_disciplined j h).inventories u signed (round ∙ of) in
        let is = (called.disciplined j h).inventories u (old_in (kinds.Inventory u) signed) (round ∙ of ∙ sym stays.r) in
        let claim = linked_after.told i words.Included (subst (λ (q : Round). WasTold v j i q tolds.Included) (of ∙ sym stays.r) (grows.told _ line)) in
        let e = entry_in (called.after j).run.claims i.0 claim.0 claim.1 claim.2 in
        let there : Contains (inventory_of (called.before j).run).entries e.0 =
        subst (λ (z : Inventory). Contains z.entries e.0) was.0 (subst (λ (z : Inventory). Contains z.entries e.0) (sym is.0) e.1) in
        let old = claim_of (called.before j).run.claims e.0 there in
        let told = (called.linked j h).claims i old.0 (ap (slice_get (called.before j).run.claims) (sym e.2) ∙ old.1) in
        subst (λ (q : Round). WasTold w j i q tolds.Included) (sym of) (subst (λ (t : WordTold). WasTold w j i (called.before j).run.r (word_of t)) old.2 told.0)

    kept_said : (x : ServerId) (s : Statement) (k : Kept) → Contains (g.server j).kept k → k.by ≡ Server x → k.statement ≡ s → WasSaid v (Server x) s
    kept_said x s k there by is =
        let said = Contains-from_map (λ (said : SaidView). record { by = said.signer; statement = said.statement }) (called.after j).run.kept k
        (subst (λ (z : ServerFacts). Contains z.kept k) (called.facts_after j h) there) in
        let signer : said.0.signer ≡ Server x = ap (λ (z : Kept). z.by) said.2 ∙ by in
        let statement : said.0.statement ≡ s = ap (λ (z : Kept). z.statement) said.2 ∙ is in
        subst (λ (z : SignerId). WasSaid v z s) signer (subst (λ (z : Statement). WasSaid v said.0.signer z) statement (linked_after.kept said.0 said.1))

  pub servers_follow : ServersFollow w v f g lines fresh
  servers_follow = record {
    chains = λ j h.
        subst (λ (z : ServerFacts). ChainFollows v z.chain (g.server j).chain) (sym (called.facts_before j h))
        (subst (λ (z : ServerFacts). ChainFollows v (called.before j).chain z.chain) (sym (called.facts_after j h)) (called.chains j h));
    signed = λ j h.
        ap (λ (z : ServerFacts). z.signed) (called.facts_after j h) ∙ called.signed j h
        ∙ ap (λ (z : ServerFacts). z.signed ++ fresh j) (sym (called.facts_before j h));
    put = λ j s h new. subst (λ (z : ServerFacts). Contains z.signed s) (sym (called.facts_after j h)) (called.put j s h new);
    said = λ j s h has. (linked_after j h).signed s (new_in j h s has);
    kept = λ j x s h k. inr (kept_said j h x s k.0 k.1 k.2 k.3);
    fit = λ j s h has.
        record_fits v g j (called.after j) (called.facts_after j h) (linked_after j h) (held_after j h) (called.disciplined j h) s (new_in j h s has)
        (called.of_record j s h has);
    one_each = λ j place s t h has other ps pt.
        (called.disciplined j h).one_each s t place (new_in j h s has) (subst (λ (z : ServerFacts). Contains z.signed t) (called.facts_after j h) other) ps pt;
    told_once = λ j i r told again h line b na nb. one_word j h i r told again line b na nb;
    told_open = λ j i r u line h round signs.
        told_before j h i r u line round (subst (λ (z : ServerFacts). Contains z.signed (kinds.Inventory u)) (called.facts_before j h) signs);
  }
