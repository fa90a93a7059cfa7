-- What a server that isn't bent promises of all that it signed, and of the round that it runs.
use Rattle.std.proofs.Common.{◌≡◌, ◌≢◌, ℕ, ◌<◌, Bool, true, false, List, length, get_or, Some, None, refl, sym, ap, subst, ◌∙◌, arith, inl, inr}
use Rattle.std.specs.Prelude.{Option, Contains, ◌⊎◌, IsSome}
use Rattle.std.proofs.lemmas.Option.{same_Some, slice_get-get_or}
use Rattle.dn_wire.specs.declared.ids.ClientId.{ClientId}
use Rattle.dn_wire.specs.declared.ids.Round.{Round}
use Rattle.dn_record_types.specs.declared.body.Body.{Body}
use Rattle.dn_record_types.specs.declared.body.Listed.{Listed}
use Rattle.dn_record_types.specs.declared.inventory.Inventory.{Inventory}
use Rattle.dn_record_types.specs.declared.shown.ShownCipher.{ShownCipher}
use Rattle.dn_record_types.specs.declared.statement.Statement.{Statement}
use Rattle.dn_record_types.specs.declared.statement.Statement.TheVariants as kinds
use Rattle.dn_record_types.specs.declared.statement.WordTold.{WordTold}
use Rattle.dn_record_types.specs.Place.{Place, receipt_of, inventory_of as inventory_at, commit_of, reveal_of, sign_of, pad_bits_of, shown_of, place_of}
use Rattle.dn_records.specs.Records.{kind_byte}
use Rattle.dn_seal.specs.Said.{SaidView}
use Rattle.dn_server.specs.declared.run.Stage.{Stage}
use Rattle.dn_server.specs.declared.run.Stage.TheVariants as stages
use Rattle.dn_server.specs.Server.{ServerView, itself, is_of, kept_of, statement_of, AreKept, servers_in}
use Rattle.dn_server.specs.Keeping.{round_of, HasAll}
use Rattle.dn_server.proofs.KeptLemmas.{kept_round, kept_by, statement_said}
use Rattle.dn_rounds.specs.Going.{IsListing, commitment_of}
use Rattle.dn_rounds.proofs.CommitLemmas.{inventories_fit, never_both}
use Rattle.dn_rounds.proofs.SumLemmas.{sum_long}
use Rattle.dn_openings.proofs.DisciplineLemmas.{one_pads, one_shown}
use Rattle.dn_exchange.specs.Closing.{inventory_of}
use Rattle.dn_exchange.specs.Disciplined.{Disciplined, OnePerPlace, AreGood, IsItsSum, AreUnsaid}
use Rattle.dn_exchange.specs.Fitting.{SignsWhatFits}
use Rattle.dn_exchange.specs.Honest.{HasSaid, HasSaidInventory, HasSaidCommit, HasSaidReveal, HasSaidThin, HasSaidBody, IsSaidAt, Wants, IsHonest, IsTrue}
use Rattle.dn_exchange.specs.Invariant.{IsSound, IsRunning, standing_of}
use Rattle.dn_exchange.specs.Settled.{Settled, HasSigned, KeepsAll, IsWithData, IsWithoutData, IsSignedByAll}
use Rattle.dn_exchange.proofs.JustifiedLemmas.{found_there}
use Rattle.dn_exchange.proofs.KeptSound.{statement_found}
use Rattle.dn_exchange.proofs.ListSound.{inventory_verifies}
use Rattle.dn_exchange.proofs.TrimExists.{all_make_list}

-- ---- places

place_kind : Place → ℕ
place_kind (receipt_of r i) = 2
place_kind (inventory_at r) = 3
place_kind (commit_of r) = 4
place_kind (reveal_of r) = 5
place_kind (sign_of r) = 6
place_kind (pad_bits_of r k) = 7
place_kind (shown_of r) = 8

place_round : Place → Option Round
place_round (receipt_of r i) = None
place_round (inventory_at r) = Some r
place_round (commit_of r) = Some r
place_round (reveal_of r) = Some r
place_round (sign_of r) = Some r
place_round (pad_bits_of r k) = None
place_round (shown_of r) = None

kind_of_place : (s : Statement) (p : Place) → place_of s ≡ Some p → kind_byte s ≡ place_kind p
unfolding place_kind
kind_of_place (kinds.Submission r prev i d) p e = absurd (let never = e in cc)
kind_of_place (kinds.Receipt r i d t) p e = ap place_kind (same_Some (receipt_of r i) p e)
kind_of_place (kinds.Inventory v) p e = ap place_kind (same_Some (inventory_at v.r) p e)
kind_of_place (kinds.Commit r d) p e = ap place_kind (same_Some (commit_of r) p e)
kind_of_place (kinds.Reveal r s) p e = ap place_kind (same_Some (reveal_of r) p e)
kind_of_place (kinds.Sign b) p e = ap place_kind (same_Some (sign_of b.r) p e)
kind_of_place (kinds.PadBits r k bs) p e = ap place_kind (same_Some (pad_bits_of r k) p e)
kind_of_place (kinds.Shown r s xs) p e = ap place_kind (same_Some (shown_of r) p e)
kind_of_place (kinds.Accusation r s k) p e = absurd (let never = e in cc)
kind_of_place (kinds.Rebuttal r k j seed env) p e = absurd (let never = e in cc)
kind_of_place (kinds.Concede r k) p e = absurd (let never = e in cc)

round_of_place : (s : Statement) (p : Place) → place_of s ≡ Some p → round_of s ≡ place_round p
unfolding place_round
round_of_place (kinds.Submission r prev i d) p e = absurd (let never = e in cc)
round_of_place (kinds.Receipt r i d t) p e = ap place_round (same_Some (receipt_of r i) p e)
round_of_place (kinds.Inventory v) p e = ap place_round (same_Some (inventory_at v.r) p e)
round_of_place (kinds.Commit r d) p e = ap place_round (same_Some (commit_of r) p e)
round_of_place (kinds.Reveal r s) p e = ap place_round (same_Some (reveal_of r) p e)
round_of_place (kinds.Sign b) p e = ap place_round (same_Some (sign_of b.r) p e)
round_of_place (kinds.PadBits r k bs) p e = ap place_round (same_Some (pad_bits_of r k) p e)
round_of_place (kinds.Shown r s xs) p e = ap place_round (same_Some (shown_of r) p e)
round_of_place (kinds.Accusation r s k) p e = absurd (let never = e in cc)
round_of_place (kinds.Rebuttal r k j seed env) p e = absurd (let never = e in cc)
round_of_place (kinds.Concede r k) p e = absurd (let never = e in cc)

receipt_shape : (s : Statement) (r : Round) (i : ClientId) → place_of s ≡ Some (receipt_of r i) → (d : List ℕ) × (w : WordTold) × (s ≡ kinds.Receipt r i d w)
receipt_shape (kinds.Submission q prev c d) r i e = absurd (let never = e in cc)
receipt_shape (kinds.Receipt q c d t) r i e =
    let place = same_Some (receipt_of q c) (receipt_of r i) e in
    let round : q ≡ r = cc in
    let client : c ≡ i = cc in
    (d, t, λ k. kinds.Receipt (round k) (client k) d t)
receipt_shape (kinds.Inventory v) r i e = absurd (let never = same_Some (inventory_at v.r) (receipt_of r i) e in cc)
receipt_shape (kinds.Commit q d) r i e = absurd (let never = same_Some (commit_of q) (receipt_of r i) e in cc)
receipt_shape (kinds.Reveal q s) r i e = absurd (let never = same_Some (reveal_of q) (receipt_of r i) e in cc)
receipt_shape (kinds.Sign b) r i e = absurd (let never = same_Some (sign_of b.r) (receipt_of r i) e in cc)
receipt_shape (kinds.PadBits q k bs) r i e = absurd (let never = same_Some (pad_bits_of q k) (receipt_of r i) e in cc)
receipt_shape (kinds.Shown q s xs) r i e = absurd (let never = same_Some (shown_of q) (receipt_of r i) e in cc)
receipt_shape (kinds.Accusation q s k) r i e = absurd (let never = e in cc)
receipt_shape (kinds.Rebuttal q k j seed env) r i e = absurd (let never = e in cc)
receipt_shape (kinds.Concede q k) r i e = absurd (let never = e in cc)

pads_shape : (s : Statement) (r : Round) (k : ℕ) → place_of s ≡ Some (pad_bits_of r k) → (bits : List Bool) × (s ≡ kinds.PadBits r k bits)
pads_shape (kinds.Submission q prev c d) r k e = absurd (let never = e in cc)
pads_shape (kinds.Receipt q c d t) r k e = absurd (let never = same_Some (receipt_of q c) (pad_bits_of r k) e in cc)
pads_shape (kinds.Inventory v) r k e = absurd (let never = same_Some (inventory_at v.r) (pad_bits_of r k) e in cc)
pads_shape (kinds.Commit q d) r k e = absurd (let never = same_Some (commit_of q) (pad_bits_of r k) e in cc)
pads_shape (kinds.Reveal q s) r k e = absurd (let never = same_Some (reveal_of q) (pad_bits_of r k) e in cc)
pads_shape (kinds.Sign b) r k e = absurd (let never = same_Some (sign_of b.r) (pad_bits_of r k) e in cc)
pads_shape (kinds.PadBits q n bs) r k e =
    let place = same_Some (pad_bits_of q n) (pad_bits_of r k) e in
    let round : q ≡ r = cc in
    let at : n ≡ k = cc in
    (bs, λ i. kinds.PadBits (round i) (at i) bs)
pads_shape (kinds.Shown q s xs) r k e = absurd (let never = same_Some (shown_of q) (pad_bits_of r k) e in cc)
pads_shape (kinds.Accusation q s n) r k e = absurd (let never = e in cc)
pads_shape (kinds.Rebuttal q n j seed env) r k e = absurd (let never = e in cc)
pads_shape (kinds.Concede q n) r k e = absurd (let never = e in cc)

shown_shape : (s : Statement) (r : Round) → place_of s ≡ Some (shown_of r) → (x : List Bool) × (own : List ShownCipher) × (s ≡ kinds.Shown r x own)
shown_shape (kinds.Submission q prev c d) r e = absurd (let never = e in cc)
shown_shape (kinds.Receipt q c d t) r e = absurd (let never = same_Some (receipt_of q c) (shown_of r) e in cc)
shown_shape (kinds.Inventory v) r e = absurd (let never = same_Some (inventory_at v.r) (shown_of r) e in cc)
shown_shape (kinds.Commit q d) r e = absurd (let never = same_Some (commit_of q) (shown_of r) e in cc)
shown_shape (kinds.Reveal q s) r e = absurd (let never = same_Some (reveal_of q) (shown_of r) e in cc)
shown_shape (kinds.Sign b) r e = absurd (let never = same_Some (sign_of b.r) (shown_of r) e in cc)
shown_shape (kinds.PadBits q k bs) r e = absurd (let never = same_Some (pad_bits_of q k) (shown_of r) e in cc)
shown_shape (kinds.Shown q x own) r e =
    let place = same_Some (shown_of q) (shown_of r) e in
    let round : q ≡ r = cc in
    (x, own, λ i. kinds.Shown (round i) x own)
shown_shape (kinds.Accusation q s k) r e = absurd (let never = e in cc)
shown_shape (kinds.Rebuttal q k j seed env) r e = absurd (let never = e in cc)
shown_shape (kinds.Concede q k) r e = absurd (let never = e in cc)

module _ (v : ServerView) (h : IsHonest v) (s : IsSound v) where
  -- two statements of one place
  round_place : (t u : Statement) (p : Place) (r : Round) → place_round p ≡ Some r → Contains v.signed t → Contains v.signed u → place_of t ≡ Some p → place_of u ≡ Some p → t ≡ u
  round_place t u p r round a b at_t at_u =
      h.one_each t u r a b (round_of_place t p at_t ∙ round) (round_of_place u p at_u ∙ round) (kind_of_place t p at_t ∙ sym (kind_of_place u p at_u))

  one_each : OnePerPlace v.signed
  unfolding place_round
  one_each t u (receipt_of r i) a b at_t at_u =
      let x = receipt_shape t r i at_t in
      let y = receipt_shape u r i at_u in
      x.2 ∙ h.one_receipt r i x.0 y.0 x.1 y.1 (subst (Contains v.signed) x.2 a) (subst (Contains v.signed) y.2 b) ∙ sym y.2
  one_each t u (inventory_at r) a b at_t at_u = round_place t u (inventory_at r) r refl a b at_t at_u
  one_each t u (commit_of r) a b at_t at_u = round_place t u (commit_of r) r refl a b at_t at_u
  one_each t u (reveal_of r) a b at_t at_u = round_place t u (reveal_of r) r refl a b at_t at_u
  one_each t u (sign_of r) a b at_t at_u = round_place t u (sign_of r) r refl a b at_t at_u
  one_each t u (pad_bits_of r k) a b at_t at_u =
      let x = pads_shape t r k at_t in
      let y = pads_shape u r k at_u in
      let same = one_pads v h.chain h.openings r k x.0 y.0 (subst (Contains v.signed) x.1 a) (subst (Contains v.signed) y.1 b) in
      x.1 ∙ ap (kinds.PadBits r k) same ∙ sym y.1
  one_each t u (shown_of r) a b at_t at_u =
      let x = shown_shape t r at_t in
      let y = shown_shape u r at_u in
      x.2 ∙ one_shown v h.openings r x.0 y.0 x.1 y.1 (subst (Contains v.signed) x.2 a) (subst (Contains v.signed) y.2 b) ∙ sym y.2

  -- ---- what was signed of the last round

  pub kept_of_round : (kind j : ℕ) (t : Statement) → statement_of v.run.kept kind j ≡ Some t → round_of t ≡ Some v.run.r
  kept_of_round kind j t e =
      let found = statement_said v.run.kept kind j t e in
      sym (ap round_of found.2) ∙ kept_round v.run.r v.run.kept kind j found.0 s.round found.1

  -- a statement of the round of the kind of one that was signed is that one
  same_said : (t u : Statement) → HasSaid v u → Contains v.signed t → round_of t ≡ Some v.run.r → kind_byte t ≡ kind_byte u → t ≡ u
  same_said t u said c round kind = h.one_each t u v.run.r c said.signed round (kept_of_round (kind_byte u) v.seat.number u said.kept) kind

  is_kept : (t u : Statement) → HasSaid v u → Contains v.signed t → round_of t ≡ Some v.run.r → kind_byte t ≡ kind_byte u → statement_of v.run.kept (kind_byte t) v.seat.number ≡ Some t
  is_kept t u said c round kind = subst (λ (x : Statement). statement_of v.run.kept (kind_byte x) v.seat.number ≡ Some x) (sym (same_said t u said c round kind)) said.kept

  -- by its stage
  said_inventory : (stage : Stage) → IsSaidAt stage v → (t : Statement) → Contains v.signed t → round_of t ≡ Some v.run.r → kind_byte t ≡ 3 → HasSaidInventory v
  said_inventory stages.Collecting x t c round kind = absurd (x.0 t c round kind)
  said_inventory stages.Listed x t c round kind = x.0
  said_inventory stages.Committed x t c round kind = x.0
  said_inventory stages.Revealed x t c round kind = x.0
  said_inventory stages.Signed x t c round kind = x.0

  by_body : {A : Type 0} → (HasSaidThin v → A) → (HasSaidBody v → A) → HasSaidThin v ⊎ HasSaidBody v → A
  by_body f g (inl x) = f x
  by_body f g (inr x) = g x

  said_commit : (stage : Stage) → IsSaidAt stage v → (t : Statement) → Contains v.signed t → round_of t ≡ Some v.run.r → kind_byte t ≡ 4 → HasSaidCommit v
  said_commit stages.Collecting x t c round kind = absurd (x.1 t c round kind)
  said_commit stages.Listed x t c round kind = absurd (x.1 t c round kind)
  said_commit stages.Committed x t c round kind = x.1
  said_commit stages.Revealed x t c round kind = (x.1.0, x.1.1.commit)
  said_commit stages.Signed x t c round kind = by_body (λ thin. absurd (thin.no_commit t c round kind)) (λ full. (full.sum, full.reveal.commit)) x.1

  said_reveal : (stage : Stage) → IsSaidAt stage v → (t : Statement) → Contains v.signed t → round_of t ≡ Some v.run.r → kind_byte t ≡ 5 → HasSaidReveal v
  said_reveal stages.Collecting x t c round kind = absurd (x.2 t c round kind)
  said_reveal stages.Listed x t c round kind = absurd (x.2 t c round kind)
  said_reveal stages.Committed x t c round kind = absurd (x.2 t c round kind)
  said_reveal stages.Revealed x t c round kind = x.1
  said_reveal stages.Signed x t c round kind = by_body (λ thin. absurd (thin.no_reveal t c round kind)) (λ full. (full.sum, full.reveal)) x.1

  said_body : (stage : Stage) → IsSaidAt stage v → (t : Statement) → Contains v.signed t → round_of t ≡ Some v.run.r → kind_byte t ≡ 6
      → (stage ≡ stages.Signed) × (HasSaidThin v ⊎ HasSaidBody v)
  said_body stages.Collecting x t c round kind = absurd (x.3 t c round kind)
  said_body stages.Listed x t c round kind = absurd (x.3 t c round kind)
  said_body stages.Committed x t c round kind = absurd (x.3 t c round kind)
  said_body stages.Revealed x t c round kind = absurd (x.2 t c round kind)
  said_body stages.Signed x t c round kind = (refl, x.1)

  pub own_body : HasSaidThin v ⊎ HasSaidBody v → (b : Body) × HasSaid v (kinds.Sign b)
  own_body (inl x) = (x.body, x.said)
  own_body (inr x) = (x.body, x.said)

  -- what was signed of the round is kept under the own number
  own_kept : (t : Statement) → Contains v.signed t → round_of t ≡ Some v.run.r → statement_of v.run.kept (kind_byte t) v.seat.number ≡ Some t
  own_kept (kinds.Submission r prev i d) c round = absurd (let never = round in cc)
  own_kept (kinds.Receipt r i d w) c round = absurd (let never = round in cc)
  own_kept (kinds.Inventory i) c round =
      is_kept (kinds.Inventory i) (kinds.Inventory (inventory_of v.run)) (said_inventory v.run.stage h.said (kinds.Inventory i) c round refl) c round refl
  own_kept (kinds.Commit r d) c round =
      let x = said_commit v.run.stage h.said (kinds.Commit r d) c round refl in is_kept (kinds.Commit r d) (commitment_of v x.0) x.1.said c round refl
  own_kept (kinds.Reveal r y) c round =
      let x = said_reveal v.run.stage h.said (kinds.Reveal r y) c round refl in is_kept (kinds.Reveal r y) (kinds.Reveal v.run.r x.0.s) x.1.said c round refl
  own_kept (kinds.Sign b) c round =
      let x = own_body (said_body v.run.stage h.said (kinds.Sign b) c round refl).1 in is_kept (kinds.Sign b) (kinds.Sign x.0) x.1 c round refl
  own_kept (kinds.PadBits r k bits) c round = absurd (let never = round in cc)
  own_kept (kinds.Shown r y own) c round = absurd (let never = round in cc)
  own_kept (kinds.Accusation r y k) c round = absurd (let never = round in cc)
  own_kept (kinds.Rebuttal r k x seed e) c round = absurd (let never = round in cc)
  own_kept (kinds.Concede r k) c round = absurd (let never = round in cc)

  own_said : (t : Statement) → Contains v.signed t → round_of t ≡ Some v.run.r → (said : SaidView) × Contains v.run.kept said × (said.signer ≡ itself v) × (said.statement ≡ t)
  own_said t c round =
      let found = statement_said v.run.kept (kind_byte t) v.seat.number t (own_kept t c round) in
      (found.0, found_there (is_of (kind_byte t) v.seat.number) v.run.kept found.0 found.1, kept_by v.run.kept (kind_byte t) v.seat.number found.0 found.1, found.2)

  good_own : AreGood v (inventory_of v.run)
  good_own = record { r = refl; prev = refl; verify = inventory_verifies v s }

  inventory_is : (i : Inventory) → Contains v.signed (kinds.Inventory i) → i.r ≡ v.run.r → i ≡ inventory_of v.run
  inventory_is i c round =
      let same = same_said (kinds.Inventory i) (kinds.Inventory (inventory_of v.run)) (said_inventory v.run.stage h.said (kinds.Inventory i) c (ap Some round) refl) c (ap Some round) refl in
      cc

  its_sum : (x : List Bool) → Contains v.signed (kinds.Reveal v.run.r x) → IsItsSum v x
  its_sum x c =
      let y = said_reveal v.run.stage h.said (kinds.Reveal v.run.r x) c refl refl in
      let same = same_said (kinds.Reveal v.run.r x) (kinds.Reveal v.run.r y.0.s) y.1.said c refl refl in
      let is : x ≡ y.0.s = cc in
      record { sum = y.0; has = y.1.commit.has; is = is; long = ap length is ∙ sum_long v y.0 y.1.commit.summed }

  -- what it hasn't signed yet, by its stage
  unsaid : (stage : Stage) → IsSaidAt stage v → AreUnsaid stage v
  unsaid stages.Collecting x = x
  unsaid stages.Listed x = (x.1, x.2, x.3)
  unsaid stages.Committed x = (x.2, x.3)
  unsaid stages.Revealed x = x.2
  unsaid stages.Signed x = tt

  -- What it signed is disciplined.
  pub disciplined : SignsWhatFits v → Disciplined v
  disciplined fit = record {
    kinds_of = h.of_kinds;
    rounds = h.rounds;
    receipt_rounds = h.receipt_rounds;
    one_each = one_each;
    receipts = h.receipts;
    claims = h.claims;
    inventories = λ i c round. let is = inventory_is i c round in (is, subst (AreGood v) (sym is) good_own);
    commits = λ d c. let x = said_commit v.run.stage h.said (kinds.Commit v.run.r d) c refl refl in record { listed = x.0.listed; listing = x.1.listing; good = x.1.good };
    reveals_its = its_sum;
    reveals = h.reveals;
    signs = h.signs;
    pasts = h.pasts;
    past_signed = λ past there. (h.past_are past there).0;
    past_are = λ past there. (h.past_are past there).1;
    pad_bits = h.openings.pads;
    shown = h.openings.shown;
    course = h.course;
    one_kept = h.one_kept;
    own_kept = own_said;
    fits = fit.fits;
    is_key = s.is_key;
    committed = fit.committed;
    started = λ on. let before = (s.running on).course.before in omega (arith, before);
    open_runs = λ e. (s.is_open e).0;
    claimed = λ i claim e. s.claimed i.0 claim e;
    unsaid = unsaid v.run.stage h.said;
  }

-- ---- a round that runs

module _ (v : ServerView) (t : IsTrue v) (s : IsSound v) (runs : v.run.is_running ≡ true) where
  h : IsHonest v
  h = t.honest

  run : IsRunning (standing_of v)
  run = s.running runs

  -- all of a list are kept
  all_of : {A : Type 0} (make : A → Statement) (kind : ℕ) (xs : List A) (d : A) → AreKept make kind v.run.kept (servers_in v) xs → HasAll kind v.run.kept (servers_in v)
  all_of make kind xs d are j lt =
      let within : j < length xs = omega (arith, lt, are.each) in
      let x = get_or xs j d in
      let found = statement_found (kept_of v.run.kept kind j) (make x) (are.say j x (slice_get-get_or xs j d within)) in
      subst IsSome (sym found.1) refl

  all_listed : (thin : Bool) (listed : List Listed) → IsListing v thin listed → KeepsAll v 3
  all_listed thin listed l = all_of kinds.Inventory 3 l.inventories (inventory_of v.run) l.kept

  not_both : (l m : List Listed) → IsListing v false l → IsListing v true m → ⊥
  not_both l m a b = never_both v l m (inventories_fit v run.kept.said) a b

  inventory_so : HasSaidInventory v → HasSigned v 3
  inventory_so x = (kinds.Inventory (inventory_of v.run), x.signed, refl, refl)

  commit_so : HasSaidCommit v → HasSigned v 4
  commit_so x = (commitment_of v x.0, x.1.said.signed, refl, refl)

  reveal_so : HasSaidReveal v → HasSigned v 5
  reveal_so x = (kinds.Reveal v.run.r x.0.s, x.1.said.signed, refl, refl)

  body_so : HasSaidThin v ⊎ HasSaidBody v → HasSigned v 6
  body_so x = let b = own_body v h s x in (kinds.Sign b.0, b.1.signed, refl, kept_of_round v h s 6 v.seat.number (kinds.Sign b.0) b.1.kept)

  -- from what was signed
  has_inventory : HasSigned v 3 → HasSaidInventory v
  has_inventory x = said_inventory v h s v.run.stage h.said x.0 x.1 x.3 x.2

  has_commit : HasSigned v 4 → HasSaidCommit v
  has_commit x = said_commit v h s v.run.stage h.said x.0 x.1 x.3 x.2

  has_reveal : HasSigned v 5 → HasSaidReveal v
  has_reveal x = said_reveal v h s v.run.stage h.said x.0 x.1 x.3 x.2

  has_body : HasSigned v 6 → (v.run.stage ≡ stages.Signed) × (HasSaidThin v ⊎ HasSaidBody v)
  has_body x = said_body v h s v.run.stage h.said x.0 x.1 x.3 x.2

  -- by the stage: what is wanting can't be there
  listed_then : (stage : Stage) → v.run.stage ≡ stage → IsSaidAt stage v → v.run.window.closed ≡ true → HasSaidInventory v
  listed_then stages.Collecting e x shut = absurd (let isnt = h.listed runs e in let clash = sym shut ∙ isnt in cc)
  listed_then stages.Listed e x shut = x.0
  listed_then stages.Committed e x shut = x.0
  listed_then stages.Revealed e x shut = x.0
  listed_then stages.Signed e x shut = x.0

  shut_then : (b : Bool) → v.run.window.closed ≡ b → HasSaidInventory v → b ≡ true
  shut_then true e x = refl
  shut_then false e x =
      let at = (s.is_open e).1 in
      let none = subst (λ (q : Stage). IsSaidAt q v) at h.said in
      absurd (none.0 (kinds.Inventory (inventory_of v.run)) x.signed refl refl)

  commit_then : (stage : Stage) → IsSaidAt stage v → Wants stage v → HasSigned v 3 → IsWithData v → HasSigned v 4
  commit_then stages.Collecting x w three data_ = absurd (x.0 three.0 three.1 three.3 three.2)
  commit_then stages.Listed x w three data_ = absurd (w false data_.0 data_.1)
  commit_then stages.Committed x w three data_ = commit_so x.1
  commit_then stages.Revealed x w three data_ = commit_so (x.1.0, x.1.1.commit)
  commit_then stages.Signed x w three data_ = by_body v h s (λ thin. absurd (not_both data_.0 thin.listed data_.1 thin.listing)) (λ full. commit_so (full.sum, full.reveal.commit)) x.1

  reveal_then : (stage : Stage) → IsSaidAt stage v → Wants stage v → HasSigned v 4 → KeepsAll v 4 → HasSigned v 5
  reveal_then stages.Collecting x w four all = absurd (x.1 four.0 four.1 four.3 four.2)
  reveal_then stages.Listed x w four all = absurd (x.1 four.0 four.1 four.3 four.2)
  reveal_then stages.Committed x w four all = absurd (w all)
  reveal_then stages.Revealed x w four all = reveal_so x.1
  reveal_then stages.Signed x w four all = by_body v h s (λ thin. absurd (thin.no_commit four.0 four.1 four.3 four.2)) (λ full. reveal_so (full.sum, full.reveal)) x.1

  full_then : (stage : Stage) → IsSaidAt stage v → Wants stage v → HasSigned v 5 → KeepsAll v 5 → HasSigned v 6
  full_then stages.Collecting x w five all = absurd (x.2 five.0 five.1 five.3 five.2)
  full_then stages.Listed x w five all = absurd (x.2 five.0 five.1 five.3 five.2)
  full_then stages.Committed x w five all = absurd (x.2 five.0 five.1 five.3 five.2)
  full_then stages.Revealed x w five all = absurd (w all)
  full_then stages.Signed x w five all = body_so x.1

  thin_then : (stage : Stage) → IsSaidAt stage v → Wants stage v → HasSigned v 3 → IsWithoutData v → HasSigned v 6
  thin_then stages.Collecting x w three none = absurd (x.0 three.0 three.1 three.3 three.2)
  thin_then stages.Listed x w three none = absurd (w true none.0 none.1)
  thin_then stages.Committed x w three none = absurd (not_both x.1.0.listed none.0 x.1.1.listing none.1)
  thin_then stages.Revealed x w three none = absurd (not_both x.1.0.listed none.0 x.1.1.commit.listing none.1)
  thin_then stages.Signed x w three none = body_so x.1

  signed_by : HasSaidThin v ⊎ HasSaidBody v → HasSaidInventory v → (HasSigned v 5 × KeepsAll v 5) ⊎ (HasSigned v 3 × KeepsAll v 3 × IsWithoutData v)
  signed_by (inl x) i = inr (inventory_so i, all_listed true x.listed x.listing, (x.listed, x.listing))
  signed_by (inr x) i = inl (reveal_so (x.sum, x.reveal), x.reveals)

  from_inventory : (stage : Stage) → IsSaidAt stage v → stage ≢ stages.Collecting → HasSaidInventory v
  from_inventory stages.Collecting x isnt = absurd (isnt refl)
  from_inventory stages.Listed x isnt = x.0
  from_inventory stages.Committed x isnt = x.0
  from_inventory stages.Revealed x isnt = x.0
  from_inventory stages.Signed x isnt = x.0

  later : (stage : Stage) → IsSaidAt stage v → (x : HasSaidCommit v) → HasSaidInventory v
  later stages.Collecting x y = absurd (x.1 (commitment_of v y.0) y.1.said.signed refl refl)
  later stages.Listed x y = x.0
  later stages.Committed x y = x.0
  later stages.Revealed x y = x.0
  later stages.Signed x y = x.0

  not_all : (stage : Stage) → stage ≡ stages.Signed → Wants stage v → (b : Body) → statement_of v.run.kept 6 v.seat.number ≡ Some (kinds.Sign b) → ¬ IsSignedByAll v b
  not_all stages.Collecting e w b kept = absurd (let clash = e in cc)
  not_all stages.Listed e w b kept = absurd (let clash = e in cc)
  not_all stages.Committed e w b kept = absurd (let clash = e in cc)
  not_all stages.Revealed e w b kept = absurd (let clash = e in cc)
  not_all stages.Signed e w b kept = w b kept

  -- It is settled.
  pub settled : Settled v
  settled =
      let w = t.gone runs in
      record {
        inventory = (
          λ x. shut_then v.run.window.closed refl (has_inventory x),
          λ shut. inventory_so (listed_then v.run.stage refl h.said shut),
        );
        entries = λ x. (has_inventory x).signed;
        commit = (
          λ x. let c = has_commit x in (inventory_so (later v.run.stage h.said c), all_listed false c.0.listed c.1.listing, (c.0.listed, c.1.listing)),
          λ x. commit_then v.run.stage h.said w x.0 x.2,
        );
        reveal = (
          λ x. let r = has_reveal x in (commit_so (r.0, r.1.commit), r.1.commits),
          λ x. reveal_then v.run.stage h.said w x.0 x.1,
        );
        sign = (
          λ x. let b = has_body x in signed_by b.1 (from_inventory v.run.stage h.said (λ e. let clash = sym b.0 ∙ e in cc)),
          λ x. elim x [ inl full ↦ full_then v.run.stage h.said w full.0 full.1 | inr thin ↦ thin_then v.run.stage h.said w thin.0 thin.2 ],
        );
        certificate = λ b c round.
            let at = said_body v h s v.run.stage h.said (kinds.Sign b) c (ap Some round) refl in
            not_all v.run.stage at.0 w b (own_kept v h s (kinds.Sign b) c (ap Some round));
        listed = λ all. all_make_list v run.kept.said all;
        kept = λ j i e.
            let good = run.inventories j i e in
            let round = kept_of_round v h s 3 j (kinds.Inventory i) e in
            record { r = same_Some i.r v.run.r round; prev = good.0; verify = good.1 };
      }
