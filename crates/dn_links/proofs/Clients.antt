-- What a call does at the clients, by what clients promise, follows the rules of runs.
use Rattle.std.proofs.Common.{◌≡◌, ℕ, ◌<◌, ◌≤◌, List, [], ◌∷◌, ◌++◌, length, drop, take, refl, sym, ap, subst, ◌∙◌, arith, inl, inr, Bool}
use Rattle.std.specs.Prelude.{Contains, Some, slice_get, slice_index_or, ◌⊎◌}
use Rattle.std.proofs.lemmas.Option.{slice_get_within, get_or_from_slice_get}
use Rattle.std.proofs.lemmas.List.Elements.{All-contains, Contains-append_left, Contains-append_right, Contains-append_cases}
use Rattle.std.proofs.lemmas.List.FromFn.{length-map-range_with_len, get_or-map-range_with_len}
use Rattle.dn_wire.specs.declared.ids.ClientId.{ClientId}
use Rattle.dn_wire.specs.declared.ids.Round.{Round}
use Rattle.dn_wire.specs.declared.ids.SignerId.{SignerId}
use Rattle.dn_wire.specs.declared.ids.SignerId.TheVariants as signers
use Rattle.dn_bits.specs.Bits.{bytes_of, xor_bits}
use Rattle.dn_hash.specs.Digests.{cipher_digest_of, mask_seed_of}
use Rattle.dn_record_types.specs.declared.statement.Statement.{Statement}
use Rattle.dn_record_types.specs.declared.statement.Statement.TheVariants as kinds
use Rattle.dn_layout.specs.Layout.{bits_of}
use Rattle.dn_seal.specs.Said.{Unseals, IsSaid, IsUnder}
use Rattle.dn_seal.specs.Challenge.{AreOpened}
use Rattle.dn_seal.specs.declared.challenge.Challenge.{Challenge}
use Rattle.dn_cert.specs.Chain.{ChainView, IsLayoutAfter, bodies, with_held}
use Rattle.dn_cert.specs.Evidence.{shown_bit, bit_in}
use Rattle.dn_cert.proofs.Orders.{here, nothing, first_or_later, All-from_contains}
use Rattle.dn_cert.proofs.ListLemmas.{one_of_number}
use Rattle.dn_client.specs.declared.made.Made.{Made}
use Rattle.dn_client.specs.Plain.{plain_text}
use Rattle.dn_client.specs.Client.{ClientView, Identity, IsIn, IsMade, submission_of}
use Rattle.dn_client.specs.Answering.{IsRebutted, rebuttal_of}
use Rattle.dn_headline.specs.Group.{IsHonestClient, servers_of, seed_of, pads_of_client}
use Rattle.dn_headline.specs.Log.{Step}
use Rattle.dn_headline.specs.Run.{RunView, PlainMade, SumMade}
use Rattle.dn_headline.specs.Spoken.{WasSubmitted}
use Rattle.dn_headline.specs.Certified.{IsCertified}
use Rattle.dn_headline.specs.Plains.{IsByRule, text_in, texts_in}
use Rattle.dn_headline.specs.Invariant.{Facts, ClientFacts, Invariant, IsHeldChain, HoldsOneEach, FitsClient, FitsSubmission}
use Rattle.dn_report.specs.declared.outcome.Outcome.{Outcome}
use Rattle.dn_headline.specs.Step.{Grows, ChainGrows, ChainFollows, ClientsFollow}
use Rattle.dn_links.specs.ClientLink.{IsOfRun, IsPutOf, IsClientLinked, ClientCall, ClientsCalled, plain_of, fresh_of}
use Rattle.dn_links.specs.ClientLink.ClientCall.{rests, holds, submits, accuses, answers}
use Rattle.dn_headline.proofs.Growing.{certified_stays, submitted_stays, client_fits_still}
use Rattle.dn_headline.proofs.Layouts.{layout_in_run}
use Rattle.dn_cert.proofs.GrowthLemmas.{held_stays, held_only}
use Rattle.dn_cert.proofs.ChainLemmas.{one_body}
use Rattle.dn_seal.proofs.SaidLemmas.{said_unseals}
use Rattle.dn_client.proofs.Envelopes.{made_unseals}
use Rattle.dn_client.proofs.Discipline.{made_long, one_submission}
use Rattle.dn_links.proofs.ClientPlains.{cipher_is}

-- ---- lists

no_more : {A : Type 0} (xs : List A) → xs ≡ xs ++ []
no_more [] = refl
no_more (x ∷ xs) = ap (λ ys. x ∷ ys) (no_more xs)

behind_is : {A : Type 0} (xs ys : List A) → drop (length xs) (xs ++ ys) ≡ ys
behind_is [] ys = refl
behind_is (x ∷ xs) ys = behind_is xs ys

-- what was added to a list is what stands behind it
added_is : {A : Type 0} (old new more : List A) → new ≡ old ++ more → new ≡ old ++ drop (length old) new
added_is old new more is = is ∙ ap (λ ys. old ++ ys) (sym (behind_is old more) ∙ ap (drop (length old)) (sym is))

same_is : {A : Type 0} (old new : List A) → new ≡ old → new ≡ old ++ drop (length old) new
same_is old new is = added_is old new [] (is ∙ no_more old)

pub contains_at : {A : Type 0} (xs : List A) (n : ℕ) (x : A) → slice_get xs n ≡ Some x → Contains xs x
contains_at xs n x at = (n, slice_get_within xs n x at, get_or_from_slice_get xs n x x at)

both_ways : {A : Type 0} (xs ys zs : List A) → (xs ++ ys) ++ zs ≡ xs ++ (ys ++ zs)
both_ways [] ys zs = refl
both_ways (x ∷ xs) ys zs = ap (λ ws. x ∷ ws) (both_ways xs ys zs)

-- a step's text comes behind those given before
pub texts_more : (i : ClientId) (history : List Step) (s : Step) → texts_in i (history ++ s ∷ []) ≡ texts_in i history ++ text_in i s.event
texts_more i [] s = sym (no_more (text_in i s.event))
texts_more i (t ∷ ts) s =
    ap (λ (q : List (List ℕ)). text_in i t.event ++ q) (texts_more i ts s) ∙ sym (both_ways (text_in i t.event) (texts_in i ts) (text_in i s.event))

-- ---- one client

module _ (w : RunView) (f g : Facts) (history : List Step) (plains : List PlainMade) (sums : List SumMade) (lines : List Outcome)
    (grows : Grows w (record { group = w.group; history = history; plains = plains; sums = sums }) lines) (inv : Invariant w f)
    (called : ClientsCalled w (record { group = w.group; history = history; plains = plains; sums = sums }) f g) where
  abbrev v : RunView
  v = record { group = w.group; history = history; plains = plains; sums = sums }

  same_chain : (a b : ChainView) → HoldsOneEach b → b ≡ a → ChainFollows v a b
  same_chain a b one same = record {
    one_each = one;
    grows = record { slots = ap (λ (z : ChainView). z.slots) same; held = λ x there. subst (λ (z : ChainView). Contains (bodies z) x) (sym same) there };
    certified = λ x there. inl (subst (λ (z : ChainView). Contains (bodies z) x) same there);
  }

  module _ (i : ClientId) (h : IsHonestClient w.group i) where
    abbrev c : ClientView
    c = called.before i

    abbrev d : ClientView
    d = called.after i

    one_each : HoldsOneEach d.chain
    one_each = one_body d.chain (called.clients i h).chain

    chain_follows : ClientCall v i c d → ChainFollows v c.chain d.chain
    chain_follows (rests so) = same_chain c.chain d.chain one_each so.chain
    chain_follows (holds certificate held put) =
        let grown : d.chain ≡ record c.chain { held = with_held certificate.body c.chain.held } = ap (λ (z : ClientView). z.chain) held.kept in
        subst (ChainFollows v c.chain) (sym grown) (record {
          grows = record { slots = refl; held = λ x there. held_stays certificate.body c.chain.held x there };
          one_each = subst HoldsOneEach grown one_each;
          certified = λ x there. elim (held_only certificate.body c.chain.held x there) [ inl e ↦ inr (subst (IsCertified v) e put) | inr old ↦ inl old ];
        })
    chain_follows (submits r s made of) =
        elim made.1 [
          | inl again ↦ same_chain c.chain d.chain one_each (ap (λ (z : ClientView). z.chain) again.same)
          | inr now ↦ same_chain c.chain d.chain one_each (ap (λ (z : ClientView). z.chain) now.kept)
        ]
    chain_follows (accuses r k envelope by) =
        elim by.2 [
          | inl again ↦ same_chain c.chain d.chain one_each (ap (λ (z : ClientView). z.chain) again.same)
          | inr now ↦ same_chain c.chain d.chain one_each (ap (λ (z : ClientView). z.chain) now.kept)
        ]
    chain_follows (answers challenge envelopes envelope by opened) = same_chain c.chain d.chain one_each (ap (λ (z : ClientView). z.chain) by.kept)

    who_is : ClientCall v i c d → d.who ≡ c.who
    who_is (rests so) = so.who
    who_is (holds certificate held put) = ap (λ (z : ClientView). z.who) held.kept
    who_is (submits r s made of) = elim made.1 [ inl again ↦ ap (λ (z : ClientView). z.who) again.same | inr now ↦ ap (λ (z : ClientView). z.who) now.kept ]
    who_is (accuses r k envelope by) = elim by.2 [ inl again ↦ ap (λ (z : ClientView). z.who) again.same | inr now ↦ ap (λ (z : ClientView). z.who) now.kept ]
    who_is (answers challenge envelopes envelope by opened) = ap (λ (z : ClientView). z.who) by.kept

    bent_is : ClientCall v i c d → d.bent ≡ c.bent
    bent_is (rests so) = so.bent
    bent_is (holds certificate held put) = ap (λ (z : ClientView). z.bent) held.kept
    bent_is (submits r s made of) = elim made.1 [ inl again ↦ ap (λ (z : ClientView). z.bent) again.same | inr now ↦ ap (λ (z : ClientView). z.bent) now.kept ]
    bent_is (accuses r k envelope by) = elim by.2 [ inl again ↦ ap (λ (z : ClientView). z.bent) again.same | inr now ↦ ap (λ (z : ClientView). z.bent) now.kept ]
    bent_is (answers challenge envelopes envelope by opened) = ap (λ (z : ClientView). z.bent) by.kept

    -- what it has made it keeps
    made_stays : ClientCall v i c d → (m : Made) → Contains c.made m → Contains d.made m
    made_stays (rests so) m there = subst (λ (ms : List Made). Contains ms m) (sym so.made) there
    made_stays (holds certificate held put) m there = subst (λ (z : ClientView). Contains z.made m) (sym held.kept) there
    made_stays (submits r s made of) m there =
        elim made.1 [
          | inl again ↦ subst (λ (z : ClientView). Contains z.made m) (sym again.same) there
          | inr now ↦ subst (λ (z : ClientView). Contains z.made m) (sym now.kept) (Contains-append_left c.made (now.made ∷ []) m there)
        ]
    made_stays (accuses r k envelope by) m there =
        elim by.2 [
          | inl again ↦ subst (λ (z : ClientView). Contains z.made m) (sym again.same) there
          | inr now ↦ subst (λ (z : ClientView). Contains z.made m) (sym now.kept) there
        ]
    made_stays (answers challenge envelopes envelope by opened) m there = subst (λ (z : ClientView). Contains z.made m) (sym by.kept) there

    -- what it made newly is the run's
    made_new : ClientCall v i c d → (m : Made) → Contains d.made m → Contains c.made m ⊎ IsPutOf v i m
    made_new (rests so) m there = inl (subst (λ (ms : List Made). Contains ms m) so.made there)
    made_new (holds certificate held put) m there = inl (subst (λ (z : ClientView). Contains z.made m) held.kept there)
    made_new (submits r s made of) m there =
        elim made.1 [
          | inl again ↦ inl (subst (λ (z : ClientView). Contains z.made m) again.same there)
          | inr now ↦ elim (Contains-append_cases c.made (now.made ∷ []) m (subst (λ (z : ClientView). Contains z.made m) now.kept there)) [
            | inl old ↦ inl old
            | inr new ↦ elim (first_or_later now.made [] m new) [
              | inl is ↦ inr (of m there (ap (λ (z : Made). z.r) (sym is) ∙ now.content.round))
              | inr none ↦ absurd (nothing m none)
            ]
          ]
        ]
    made_new (accuses r k envelope by) m there =
        elim by.2 [
          | inl again ↦ inl (subst (λ (z : ClientView). Contains z.made m) again.same there)
          | inr now ↦ inl (subst (λ (z : ClientView). Contains z.made m) now.kept there)
        ]
    made_new (answers challenge envelopes envelope by opened) m there = inl (subst (λ (z : ClientView). Contains z.made m) by.kept there)

    -- what it made and put was submitted
    was_submitted : d.who.me ≡ i → IsIn w.group.roster d.who → (m : Made) → Contains d.made m → IsPutOf v i m → IsOfRun v i m
    was_submitted me within m there put =
        let s = kinds.Submission m.r m.prev i m.digest in
        let opens = made_unseals w.group.roster d m within (called.clients i h) there in (
          put.of_run,
          record {
            put = put.put;
            there = put.there;
            submits = record {
              submission = tt;
              envelope = m.envelope;
              is = put.is;
              unseals = subst (λ (z : ClientId). Unseals w.group.roster m.envelope (signers.Client z) (kinds.Submission m.r m.prev z m.digest)) me opens;
            };
          },
        )

    pub client_linked_after : IsClientLinked v i d
    client_linked_after =
        let moves = called.moves i h in
        let link = called.linked i h in
        let who = who_is moves.call in
        record {
          me = ap (λ (z : Identity). z.me) who ∙ link.me;
          within = subst (IsIn w.group.roster) (sym who) link.within;
          owns = subst (λ (z : Identity). slice_get w.group.owners z.slot.0 ≡ Some i) (sym who) link.owns;
          seeds = ap (λ (z : Identity). z.seeds) who ∙ link.seeds;
          mask = link.mask ∙ ap (λ (z : Identity). Some z.mask) (sym who);
          straight = bent_is moves.call ∙ link.straight;
          queue = moves.queue;
          made = λ m there. elim (made_new moves.call m there) [
            | inl old ↦
                let was = link.made m old in (
                  grows.plains (plain_of i m) was.0,
                  submitted_stays w history plains sums lines grows (signers.Client i) (kinds.Submission m.r m.prev i m.digest) m.cipher was.1,
                )
            | inr new ↦ was_submitted (ap (λ (z : Identity). z.me) who ∙ link.me) (subst (IsIn w.group.roster) (sym who) link.within) m there new
          ];
          plains = λ m there mine. elim (moves.plains m there mine) [
            | inl old ↦ let of = link.plains m old mine in (of.0, made_stays moves.call of.0 of.1, of.2)
            | inr new ↦ new
          ];
        }

    client_held_after : IsHeldChain v d.chain
    client_held_after =
        let was : IsHeldChain w c.chain = subst (λ (z : ClientFacts). IsHeldChain w z.chain) (called.facts_before i h) (inv.held_is_put.clients i h) in
        let chain = chain_follows (called.moves i h).call in
        record {
          slots = chain.grows.slots ∙ was.slots;
          certified = All-from_contains (IsCertified v) (bodies d.chain) (λ b has. elim (chain.certified b has) [
            | inl old ↦ certified_stays w history plains sums lines grows b (All-contains (IsCertified w) (bodies c.chain) b was.certified old)
            | inr new ↦ new
          ]);
          one_each = one_each;
        }

    is_made : (m : Made) → Contains d.made m → IsMade d.who d.chain d.queue d.signed m
    is_made m there = All-contains (IsMade d.who d.chain d.queue d.signed) d.made m (called.clients i h).made there

    fits_made : (m : Made) → Contains d.made m → FitsSubmission v g i m.r m.prev d.who.me m.digest
    fits_made m there =
        let is = is_made m there in
        let link = client_linked_after in
        let long : length m.plain ≡ bits_of is.lengths = (made_long d.who is.lengths _ is.place m is.content).0 in
        let cipher : m.cipher ≡ xor_bits m.plain (pads_of_client w.group i.0 m.r.0 (bits_of is.lengths)) =
        is.content.cipher ∙ cipher_is w.group i.0 m.r.0 (bits_of is.lengths) d.who.seeds m.plain link.seeds long in
        let of = link.made m there in
        let me = link.me in
        record {
          itself = me;
          made = plain_of i m;
          of_run = of.0;
          is = (refl, refl, refl);
          layout = is.lengths;
          after = subst (λ (z : ClientFacts). IsLayoutAfter z.chain m.prev.0 is.lengths) (sym (called.facts_after i h)) is.after;
          long = long;
          hashed = is.content.digest ∙ (λ t. cipher_digest_of m.r.0 (me t).0 (bytes_of (cipher t)));
          submitted = subst (λ (z : List Bool). WasSubmitted v (signers.Client i) (kinds.Submission m.r m.prev i m.digest) z) cipher of.1;
        }

    fits_rebuttal : (challenge : Challenge) (envelopes : List (List ℕ)) (envelope : List ℕ) (by : IsRebutted c challenge envelope d)
        → AreOpened w.group.roster envelopes challenge.shown.items → FitsClient v g i (rebuttal_of c.who challenge by.server by.false_bit.said)
    fits_rebuttal challenge envelopes envelope by opened =
        let link = called.linked i h in
        let said = by.false_bit.said in
        let j = by.server in
        let are = by.challenged.asked.opened.1 in
        let bits = are.each j said by.false_bit.there in
        let number : length c.who.seeds ≡ servers_of w.group =
        ap length link.seeds ∙ length-map-range_with_len (λ (x : ℕ). seed_of w.group i.0 x) 0 (servers_of w.group) in
        let within = slice_get_within challenge.shown.items j said by.false_bit.there in
        let count = are.count in
        let lt : j < servers_of w.group = omega arith in
        let seed : slice_index_or c.who.seeds j [] ≡ seed_of w.group i.0 j =
        ap (λ (z : List (List ℕ)). slice_index_or z j []) link.seeds
        ∙ get_or-map-range_with_len (λ (x : ℕ). seed_of w.group i.0 x) 0 (servers_of w.group) j j [] lt (omega arith) in
        let among : Contains challenge.shown.items said = contains_at challenge.shown.items j said by.false_bit.there in
        record {
          seed_is = seed;
          server = lt;
          bits = bits.0;
          unseals = subst (λ (z : SignerId). Unseals w.group.roster said.bytes z (kinds.PadBits challenge.r challenge.k bits.0)) bits.1
              (subst (λ (z : Statement). Unseals w.group.roster said.bytes said.signer z) bits.2 (said_unseals w.group.roster said
              (All-contains IsSaid challenge.shown.items said opened.said among) (All-contains (IsUnder w.group.roster) challenge.shown.items said opened.under among)));
          differs = λ same. by.false_bit.shows (ap (λ (z : Statement). bit_in z c.who.me) bits.2 ∙ ap (λ (z : ClientId). shown_bit bits.0 z) link.me ∙ sym same);
        }

    -- what it signed newly fits
    new_fits : ClientCall v i c d → (s : Statement) → Contains d.signed s → Contains c.signed s ⊎ FitsClient v g i s
    new_fits (rests so) s there = inl (subst (λ (ss : List Statement). Contains ss s) so.signed there)
    new_fits (holds certificate held put) s there = inl (subst (λ (z : ClientView). Contains z.signed s) held.kept there)
    new_fits (submits r x made of) s there =
        elim made.1 [
          | inl again ↦ inl (subst (λ (z : ClientView). Contains z.signed s) again.same there)
          | inr now ↦ elim (Contains-append_cases c.signed (submission_of c.who now.made ∷ []) s (subst (λ (z : ClientView). Contains z.signed s) now.kept there)) [
            | inl old ↦ inl old
            | inr new ↦ elim (first_or_later (submission_of c.who now.made) [] s new) [
              | inl is ↦
                  let who : d.who ≡ c.who = ap (λ (z : ClientView). z.who) now.kept in
                  let last : Contains d.made now.made =
                  subst (λ (z : ClientView). Contains z.made now.made) (sym now.kept) (Contains-append_right c.made (now.made ∷ []) now.made (here now.made [])) in
                  inr (subst (FitsClient v g i) (ap (λ (z : Identity). submission_of z now.made) who ∙ is) (fits_made now.made last))
              | inr none ↦ absurd (nothing s none)
            ]
          ]
        ]
    new_fits (accuses r k envelope by) s there =
        elim by.2 [
          | inl again ↦ inl (subst (λ (z : ClientView). Contains z.signed s) again.same there)
          | inr now ↦ inl (subst (λ (z : ClientView). Contains z.signed s) now.kept there)
        ]
    new_fits (answers challenge envelopes envelope by opened) s there =
        let new = rebuttal_of c.who challenge by.server by.false_bit.said in
        elim (Contains-append_cases c.signed (new ∷ []) s (subst (λ (z : ClientView). Contains z.signed s) by.kept there)) [
          | inl old ↦ inl old
          | inr behind ↦ elim (first_or_later new [] s behind) [
            | inl is ↦ inr (subst (FitsClient v g i) is (fits_rebuttal challenge envelopes envelope by opened))
            | inr none ↦ absurd (nothing s none)
          ]
        ]

    signed_is : ClientCall v i c d → d.signed ≡ c.signed ++ fresh_of called.before called.after i
    signed_is (rests so) = same_is c.signed d.signed so.signed
    signed_is (holds certificate held put) = same_is c.signed d.signed (ap (λ (z : ClientView). z.signed) held.kept)
    signed_is (submits r s made of) =
        elim made.1 [
          | inl again ↦ same_is c.signed d.signed (ap (λ (z : ClientView). z.signed) again.same)
          | inr now ↦ added_is c.signed d.signed _ (ap (λ (z : ClientView). z.signed) now.kept)
        ]
    signed_is (accuses r k envelope by) =
        elim by.2 [
          | inl again ↦ same_is c.signed d.signed (ap (λ (z : ClientView). z.signed) again.same)
          | inr now ↦ same_is c.signed d.signed (ap (λ (z : ClientView). z.signed) now.kept)
        ]
    signed_is (answers challenge envelopes envelope by opened) = added_is c.signed d.signed _ (ap (λ (z : ClientView). z.signed) by.kept)

    accused_stays : ClientCall v i c d → (s : Statement) → Contains c.signed_as_slot s → Contains d.signed_as_slot s
    accused_stays (rests so) s there = subst (λ (ss : List Statement). Contains ss s) (sym so.signed_as_slot) there
    accused_stays (holds certificate held put) s there = subst (λ (z : ClientView). Contains z.signed_as_slot s) (sym held.kept) there
    accused_stays (submits r x made of) s there =
        elim made.1 [
          | inl again ↦ subst (λ (z : ClientView). Contains z.signed_as_slot s) (sym again.same) there
          | inr now ↦ subst (λ (z : ClientView). Contains z.signed_as_slot s) (sym now.kept) there
        ]
    accused_stays (accuses r k envelope by) s there =
        elim by.2 [
          | inl again ↦ subst (λ (z : ClientView). Contains z.signed_as_slot s) (sym again.same) there
          | inr now ↦ subst (λ (z : ClientView). Contains z.signed_as_slot s) (sym now.kept) (Contains-append_left c.signed_as_slot _ s there)
        ]
    accused_stays (answers challenge envelopes envelope by opened) s there = subst (λ (z : ClientView). Contains z.signed_as_slot s) (sym by.kept) there

    fresh_in : (s : Statement) → Contains (fresh_of called.before called.after i) s → Contains d.signed s
    fresh_in s there =
        subst (λ (ss : List Statement). Contains ss s) (sym (signed_is (called.moves i h).call)) (Contains-append_right c.signed (fresh_of called.before called.after i) s there)

    all_fit : (s : Statement) → Contains d.signed s → FitsClient v g i s
    all_fit s there =
        let call = (called.moves i h).call in
        elim (new_fits call s there) [
          | inr new ↦ new
          | inl old ↦
              let chain = chain_follows call in
              let grown : ChainGrows (f.client i).chain (g.client i).chain =
              subst (λ (z : ClientFacts). ChainGrows z.chain (g.client i).chain) (sym (called.facts_before i h))
              (subst (λ (z : ClientFacts). ChainGrows c.chain z.chain) (sym (called.facts_after i h)) chain.grows) in
              client_fits_still w history plains sums lines grows f g i grown s
              (inv.clients.fit i s h (subst (λ (z : ClientFacts). Contains z.signed s) (sym (called.facts_before i h)) old))
        ]

    one_made : (a b : Made) → Contains d.made a → Contains d.made b → a.r.0 ≡ b.r.0 → a ≡ b
    one_made a b x y e = one_of_number (λ (m : Made). m.r.0) d.made (called.clients i h).ascends a b x y e

    rule_of : (m : Made) → Contains d.made m → IsByRule v (plain_of i m)
    rule_of m there =
        let is = is_made m there in
        let link = client_linked_after in
        record {
          below = is.below;
          layout = is.lengths;
          after = layout_in_run v d.chain m.prev.0 is.lengths client_held_after is.after;
          slot = d.who.slot;
          owns = link.owns;
          mask = d.who.mask;
          secret = link.mask;
          given = is.said;
          within = subst (λ (q : List (List ℕ)). is.said ≤ length q) link.queue is.within;
          done_with = is.place;
          plain = is.content.plain
              ∙ ap (λ (q : List (List ℕ)). plain_text is.lengths d.who.slot.0 (drop is.place (take is.said q)) (mask_seed_of d.who.mask m.r.0)) link.queue;
        }

  by_rule : (m : PlainMade) → Contains plains m → IsHonestClient w.group m.client → IsByRule v m
  by_rule m there h =
      let of = (client_linked_after m.client h).plains m there refl in
      subst (IsByRule v) (sym of.2) (rule_of m.client h of.0 of.1)

  one_plain : (m o : PlainMade) → Contains plains m → Contains plains o → IsHonestClient w.group m.client → m.client ≡ o.client → m.r ≡ o.r → m ≡ o
  one_plain m o there other h same round =
      let i = m.client in
      let a = (client_linked_after i h).plains m there refl in
      let b = (client_linked_after i h).plains o other (sym same) in
      let rounds : a.0.r.0 ≡ b.0.r.0 =
      ap (λ (z : PlainMade). z.r.0) (sym a.2) ∙ ap (λ (z : Round). z.0) round ∙ ap (λ (z : PlainMade). z.r.0) b.2 in
      a.2 ∙ ap (plain_of i) (one_made i h a.0 b.0 a.1 b.1 rounds) ∙ sym b.2

  pub clients_follow : ClientsFollow w v f g
  clients_follow = record {
    fresh = fresh_of called.before called.after;
    chains = λ i h.
        subst (λ (z : ClientFacts). ChainFollows v z.chain (g.client i).chain) (sym (called.facts_before i h))
        (subst (λ (z : ClientFacts). ChainFollows v (called.before i).chain z.chain) (sym (called.facts_after i h)) (chain_follows i h (called.moves i h).call));
    signed = λ i h.
        ap (λ (z : ClientFacts). z.signed) (called.facts_after i h) ∙ signed_is i h (called.moves i h).call
        ∙ ap (λ (z : ClientFacts). z.signed ++ fresh_of called.before called.after i) (sym (called.facts_before i h));
    put = λ i s h new. subst (λ (z : ClientFacts). Contains z.signed s) (sym (called.facts_after i h)) (called.put i s h new);
    accused = λ i s h old.
        subst (λ (z : ClientFacts). Contains z.accused s) (sym (called.facts_after i h))
        (accused_stays i h (called.moves i h).call s (subst (λ (z : ClientFacts). Contains z.accused s) (called.facts_before i h) old));
    put_accused = λ i slot s h owns new. subst (λ (z : ClientFacts). Contains z.accused s) (sym (called.facts_after i h)) (called.put_accused i slot s h owns new);
    fit = λ i s h there. all_fit i h s (fresh_in i h s there);
    one_each = λ i r p q k l x y h there signs.
        one_submission (called.after i) (called.clients i h) (client_linked_after i h).straight r p q k l x y (fresh_in i h (kinds.Submission r p k x) there)
        (subst (λ (z : ClientFacts). Contains z.signed (kinds.Submission r q l y)) (called.facts_after i h) signs);
    plains = record { by_rule = by_rule; one_each = one_plain };
  }
