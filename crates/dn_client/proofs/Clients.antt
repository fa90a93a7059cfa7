-- What a client keeps, under changes.
use Rattle.std.proofs.Common.{◌≡◌, ◌≢◌, ℕ, ◌<◌, ◌≤◌, Bool, true, false, List, [], ◌∷◌, ◌++◌, length, drop, get_or, refl, sym, ap, subst, ◌∙◌, arith, length-append, append-nil, cond, inl, inr}
use Rattle.std.specs.Prelude.{Contains, filter, IsTrue, ◌||◌}
use Rattle.std.proofs.lemmas.List.{map-append, take-append-le}
use Rattle.std.proofs.Math.Seq.{take-length}
use Rattle.std.proofs.lemmas.List.Elements.{All-push, filter-append}
use Rattle.std.proofs.lemmas.Bool.{cases_Bool}
use Rattle.dn_bits.specs.Bits.{bit}
use Rattle.dn_record_types.specs.declared.statement.Statement.TheVariants.{Accusation}
use Rattle.dn_cert.proofs.ThinLemmas.{no_output}
use Rattle.dn_client.specs.Accusing.{IsJammed}
use Rattle.dn_wire.specs.declared.ids.SignerId.TheVariants.{Client, Slot}
use Rattle.dn_wire.specs.declared.ids.Round.{Round}
use Rattle.dn_lms.specs.Key.{leaf_count}
use Rattle.dn_record_types.specs.declared.statement.Statement.{Statement}
use Rattle.dn_record_types.specs.declared.body.Body.{Body}
use Rattle.dn_cert.specs.Chain.{ChainView, bodies, IsChain, with_held}
use Rattle.dn_cert.proofs.GrowthLemmas.{held_stays, layouts_stay_on}
use Rattle.dn_client.specs.declared.made.Made.{Made}
use Rattle.dn_client.specs.declared.accused.Accused.{Accused}
use Rattle.dn_client.specs.declared.answered.Answered.{Answered}
use Rattle.dn_client.specs.declared.client.Client.TheInside.{Inside}
use Rattle.dn_wire.specs.declared.limits.TheConstants.{MAX_TEXT}
use Rattle.dn_seal.specs.Signer.{CanSign}
use Rattle.dn_client.specs.Client.{ClientView, Identity, IsClient, IsMade, IsAccused, IsMadeOn, Rebuts, RebutEach, submission_of, accusation_of, sealed_as_client, sealed_as_slot, is_submission, is_rebuttal}
use Rattle.dn_client.specs.Submitting.{IsUnsigned, IsNewRound}
use Rattle.dn_client.specs.Inside.{view_of, Keeps}
use Rattle.dn_client.proofs.Lists.{slice_get-append, slice_get-push, numbers_ascend}

-- a client's fields keep what they have to where they are seen as a client
pub keeps_of : {new : Inside} (v : ClientView) → view_of new ≡ v → IsClient v → new.key.who ≡ Client new.me → new.slot_key.who ≡ Slot new.slot
    → new.slot_key.digest ≡ new.key.digest → (new.spent ≡ false → (new.key.lost ≡ false) × (new.slot_key.lost ≡ false)) → Keeps new
keeps_of v is client signer slot_signer one_group whole = record {
  client = subst IsClient (sym is) client;
  signer = signer;
  slot_signer = slot_signer;
  one_group = one_group;
  whole = whole;
}

-- where its key has changed
pub keeps_key : {new : Inside} (old : Inside) (v : ClientView) (signed : List Statement) (lost : Bool) → Keeps old
    → new.key ≡ record old.key { signed = signed; lost = lost } → new.slot_key ≡ old.slot_key → new.me ≡ old.me → new.slot ≡ old.slot
    → view_of new ≡ v → IsClient v → (new.spent ≡ false → (lost ≡ false) × (old.slot_key.lost ≡ false)) → Keeps new
keeps_key {new} old v signed lost keeps key_is slot_key_is me_is slot_is is client whole = record {
  client = subst IsClient (sym is) client;
  signer = ap (λ k. k.who) key_is ∙ keeps.signer ∙ ap Client (sym me_is);
  slot_signer = ap (λ k. k.who) slot_key_is ∙ keeps.slot_signer ∙ ap Slot (sym slot_is);
  one_group = ap (λ k. k.digest) slot_key_is ∙ keeps.one_group ∙ sym (ap (λ k. k.digest) key_is);
  whole = λ e. let h = whole e in (ap (λ k. k.lost) key_is ∙ h.0, ap (λ k. k.lost) slot_key_is ∙ h.1);
}

-- where its slot's key has changed
pub keeps_slot_key : {new : Inside} (old : Inside) (v : ClientView) (signed : List Statement) (lost : Bool) → Keeps old
    → new.slot_key ≡ record old.slot_key { signed = signed; lost = lost } → new.key ≡ old.key → new.me ≡ old.me → new.slot ≡ old.slot
    → view_of new ≡ v → IsClient v → (new.spent ≡ false → (old.key.lost ≡ false) × (lost ≡ false)) → Keeps new
keeps_slot_key {new} old v signed lost keeps slot_key_is key_is me_is slot_is is client whole = record {
  client = subst IsClient (sym is) client;
  signer = ap (λ k. k.who) key_is ∙ keeps.signer ∙ ap Client (sym me_is);
  slot_signer = ap (λ k. k.who) slot_key_is ∙ keeps.slot_signer ∙ ap Slot (sym slot_is);
  one_group = ap (λ k. k.digest) slot_key_is ∙ keeps.one_group ∙ sym (ap (λ k. k.digest) key_is);
  whole = λ e. let h = whole e in (ap (λ k. k.lost) key_is ∙ h.0, ap (λ k. k.lost) slot_key_is ∙ h.1);
}

-- whether it has left or is spent is no part of what it keeps
pub still_client : (v : ClientView) (left spent : Bool) → IsClient v → IsClient (record v { left = left; spent = spent })
still_client v left spent is = record {
  chain = is.chain;
  slot = is.slot;
  keys = is.keys;
  seeds = is.seeds;
  texts = is.texts;
  head = is.head;
  ascends = is.ascends;
  made = is.made;
  accused = is.accused;
  leaves = is.leaves;
  honest = λ b. let h = is.honest b in record { kinds = h.kinds; submissions = h.submissions; rebuttals = h.rebuttals; accusations = h.accusations };
}

-- ---- one text more

module _ (who : Identity) (chain : ChainView) (queue : List (List ℕ)) (signed : List Statement) where
  said_more : (text : List ℕ) (m : Made) → IsMade who chain queue signed m → IsMade who chain (queue ++ text ∷ []) signed m
  said_more text m is = record {
    below = is.below;
    lengths = is.lengths;
    after = is.after;
    place = is.place;
    said = is.said;
    within = omega (arith, is.within, length-append queue (text ∷ []));
    content = subst (λ q. IsMadeOn who is.lengths (drop is.place q) is.place m) (sym (take-append-le is.said queue (text ∷ []) is.within)) is.content;
    fits = is.fits;
    sealed = is.sealed;
  }

  -- one statement more
  signed_more : (s : Statement) (m : Made) → IsMade who chain queue signed m → IsMade who chain queue (signed ++ s ∷ []) m
  signed_more s m is = record {
    below = is.below;
    lengths = is.lengths;
    after = is.after;
    place = is.place;
    said = is.said;
    within = is.within;
    content = is.content;
    fits = is.fits;
    sealed = (is.sealed.0, is.sealed.1, slice_get-append signed (s ∷ []) is.sealed.0 (submission_of who m) is.sealed.2, is.sealed.3);
  }

  -- one certificate more
  held_more : (b : Body) (m : Made) → IsMade who chain queue signed m → IsMade who (record chain { held = with_held b chain.held }) queue signed m
  held_more b m is = record {
    below = is.below;
    lengths = is.lengths;
    after = layouts_stay_on chain b m.prev.0 is.lengths is.after;
    place = is.place;
    said = is.said;
    within = is.within;
    content = is.content;
    fits = is.fits;
    sealed = is.sealed;
  }

-- an accusation stays one after one certificate more
accused_on : (who : Identity) (chain : ChainView) (signed : List Statement) (b : Body) (a : Accused) → IsAccused who chain signed a
    → IsAccused who (record chain { held = with_held b chain.held }) signed a
accused_on who chain signed b a is = record {
  body = is.body;
  held = held_stays b (bodies chain) is.body is.held;
  lengths = is.lengths;
  after = layouts_stay_on chain b is.body.prev.0 is.lengths is.after;
  valid = is.valid;
  fits = is.fits;
  sealed = is.sealed;
}

pub says : (v : ClientView) (text : List ℕ) → length text ≤ MAX_TEXT → IsClient v → IsClient (record v { queue = v.queue ++ text ∷ [] })
says v text short is = record {
  chain = is.chain;
  slot = is.slot;
  keys = is.keys;
  seeds = is.seeds;
  texts = All-push (λ (t : List ℕ). length t ≤ MAX_TEXT) v.queue text is.texts short;
  head = omega (arith, is.head, length-append v.queue (text ∷ []));
  ascends = is.ascends;
  made = λ k d within. said_more v.who v.chain v.queue v.signed text (get_or v.made k d) (is.made k d within);
  accused = is.accused;
  leaves = is.leaves;
  honest = λ b. let h = is.honest b in record { kinds = h.kinds; submissions = h.submissions; rebuttals = h.rebuttals; accusations = h.accusations };
}

pub holds : (v : ClientView) (b : Body) (head : ℕ) → IsChain (record v.chain { held = with_held b v.chain.held }) → head ≤ length v.queue
    → IsClient v → IsClient (record v { chain = record v.chain { held = with_held b v.chain.held }; head = head })
holds v b head chain within is = record {
  chain = chain;
  slot = is.slot;
  keys = is.keys;
  seeds = is.seeds;
  texts = is.texts;
  head = within;
  ascends = is.ascends;
  made = λ k d within. held_more v.who v.chain v.queue v.signed b (get_or v.made k d) (is.made k d within);
  accused = λ k d within. accused_on v.who v.chain v.signed_as_slot b (get_or v.accused k d) (is.accused k d within);
  leaves = is.leaves;
  honest = λ straight. let h = is.honest straight in record { kinds = h.kinds; submissions = h.submissions; rebuttals = h.rebuttals; accusations = h.accusations };
}

-- ---- one accusation more

-- an output that has a 1 is not that of a thin body
full_where : (chain : ChainView) (b : Body) (k : ℕ) → IsChain chain → Contains (bodies chain) b → bit b.out k ≡ true → b.thin ≡ false
full_where chain b k is held one =
    elim (cases_Bool b.thin) [
      | inl thin ↦ let none = ap (λ (out : List Bool). bit out k) (no_output chain b is held thin) in absurd cc
      | inr full ↦ full
    ]

accused_more : (who : Identity) (chain : ChainView) (signed : List Statement) (s : Statement) (a : Accused) → IsAccused who chain signed a → IsAccused who chain (signed ++ s ∷ []) a
accused_more who chain signed s a is = record {
  body = is.body;
  held = is.held;
  lengths = is.lengths;
  after = is.after;
  valid = is.valid;
  fits = is.fits;
  sealed = (is.sealed.0, is.sealed.1, slice_get-append signed (s ∷ []) is.sealed.0 (accusation_of who a) is.sealed.2, is.sealed.3);
}

-- it is made now
accused_now : (v : ClientView) (a : Accused) → IsClient v → IsJammed v a.r a.k → CanSign (Slot v.who.slot) (accusation_of v.who a) → length v.signed_as_slot < leaf_count v.who.slot_key
    → a.envelope ≡ sealed_as_slot v.who (length v.signed_as_slot) (accusation_of v.who a) → IsAccused v.who v.chain (v.signed_as_slot ++ accusation_of v.who a ∷ []) a
accused_now v a is jammed fits leaf sealed = record {
  body = jammed.body;
  held = jammed.held.held;
  lengths = jammed.lengths;
  after = jammed.held.after;
  valid = record {
    round = sym jammed.held.round;
    by_slot = (refl, ap (λ r. Accusation r v.who.slot a.k) (sym jammed.held.round));
    place = jammed.place;
    full = full_where v.chain jammed.body a.k is.chain jammed.held.held (sym jammed.out_is);
    one = sym jammed.out_is;
  };
  fits = fits;
  sealed = (length v.signed_as_slot, leaf, slice_get-push v.signed_as_slot (accusation_of v.who a), sealed);
}

pub accuses : (v : ClientView) (a : Accused) → IsJammed v a.r a.k → CanSign (Slot v.who.slot) (accusation_of v.who a) → length v.signed_as_slot < leaf_count v.who.slot_key
    → a.envelope ≡ sealed_as_slot v.who (length v.signed_as_slot) (accusation_of v.who a) → IsClient v
    → IsClient (record v { accused = v.accused ++ a ∷ []; signed_as_slot = v.signed_as_slot ++ accusation_of v.who a ∷ [] })
accuses v a jammed fits leaf sealed is = record {
  chain = is.chain;
  slot = is.slot;
  keys = is.keys;
  seeds = is.seeds;
  texts = is.texts;
  head = is.head;
  ascends = is.ascends;
  made = is.made;
  accused = All-push (IsAccused v.who v.chain (v.signed_as_slot ++ accusation_of v.who a ∷ [])) v.accused a
      (λ k d within. accused_more v.who v.chain v.signed_as_slot (accusation_of v.who a) (get_or v.accused k d) (is.accused k d within))
      (accused_now v a is jammed fits leaf sealed);
  leaves = (is.leaves.0, omega (arith, leaf, length-append v.signed_as_slot (accusation_of v.who a ∷ [])));
  honest = λ b. let h = is.honest b in record {
    kinds = h.kinds;
    submissions = h.submissions;
    rebuttals = h.rebuttals;
    accusations = ap (λ l. l ++ accusation_of v.who a ∷ []) h.accusations ∙ sym (map-append (accusation_of v.who) v.accused (a ∷ []));
  };
}

-- ---- one rebuttal more

RebutEach-push : (answered : List Answered) (statements : List Statement) (a : Answered) (s : Statement) → RebutEach answered statements → Rebuts a s
    → RebutEach (answered ++ a ∷ []) (statements ++ s ∷ [])
RebutEach-push [] [] a s all here = (here, tt)
RebutEach-push (b ∷ answered) (t ∷ statements) a s all here = (all.0, RebutEach-push answered statements a s all.1 here)
RebutEach-push [] (t ∷ statements) a s all here = absurd all
RebutEach-push (b ∷ answered) [] a s all here = absurd all

pub answers : (v : ClientView) (a : Answered) (s : Statement) → Rebuts a s → is_rebuttal s ≡ true → is_submission s ≡ false
    → length v.signed < leaf_count v.who.key → IsClient v
    → IsClient (record v { answered = v.answered ++ a ∷ []; signed = v.signed ++ s ∷ [] })
answers v a s rebuts is_one is_none leaf is = record {
  chain = is.chain;
  slot = is.slot;
  keys = is.keys;
  seeds = is.seeds;
  texts = is.texts;
  head = is.head;
  ascends = is.ascends;
  made = λ k d within. signed_more v.who v.chain v.queue v.signed s (get_or v.made k d) (is.made k d within);
  accused = is.accused;
  leaves = (omega (arith, leaf, length-append v.signed (s ∷ [])), is.leaves.1);
  honest = λ b. let h = is.honest b in record {
    kinds = All-push (λ (t : Statement). IsTrue (is_submission t || is_rebuttal t)) v.signed s h.kinds (ap (λ t. t || is_rebuttal s) is_none ∙ is_one);
    submissions = filter-append is_submission v.signed (s ∷ []) ∙ ap (λ t. filter is_submission v.signed ++ cond t (s ∷ []) []) is_none ∙ append-nil (filter is_submission v.signed) ∙ h.submissions;
    rebuttals = subst (RebutEach (v.answered ++ a ∷ []))
        (sym (filter-append is_rebuttal v.signed (s ∷ []) ∙ ap (λ t. filter is_rebuttal v.signed ++ cond t (s ∷ []) []) is_one))
        (RebutEach-push v.answered (filter is_rebuttal v.signed) a s h.rebuttals rebuts);
    accusations = h.accusations;
  };
}

-- ---- one submission more

below_round : (v : ClientView) (r : Round) (m : Made) → r.0 ≢ 0 → IsUnsigned v r m → m.prev.0 < m.r.0
below_round v r m positive is =
    elim is.prev.held [
      | inl none ↦ omega (arith, none, positive, ap (λ q. q.0) is.round)
      | inr held ↦ omega (arith, held.1, ap (λ q. q.0) is.round)
    ]

pub submits : (v : ClientView) (r : Round) (m : Made) → r.0 ≢ 0 → IsNewRound v r → IsUnsigned v r m → CanSign (Client v.who.me) (submission_of v.who m) → length v.signed < leaf_count v.who.key
    → m.envelope ≡ sealed_as_client v.who (length v.signed) (submission_of v.who m) → IsClient v
    → IsClient (record v { made = v.made ++ m ∷ []; signed = v.signed ++ submission_of v.who m ∷ [] })
submits v r m positive next content fits leaf sealed is =
    let s = submission_of v.who m in record {
      chain = is.chain;
      slot = is.slot;
      keys = is.keys;
      seeds = is.seeds;
      texts = is.texts;
      head = is.head;
      ascends = numbers_ascend (λ (x : Made). x.r.0) v.made m is.ascends (λ k d within. omega (arith, next k d within, ap (λ q. q.0) content.round));
      made = All-push (IsMade v.who v.chain v.queue (v.signed ++ s ∷ [])) v.made m
          (λ k d within. signed_more v.who v.chain v.queue v.signed s (get_or v.made k d) (is.made k d within))
          record {
            below = below_round v r m positive content;
            lengths = content.lengths;
            after = content.after;
            place = v.head;
            said = length v.queue;
            within = omega arith;
            content = subst (λ q. IsMadeOn v.who content.lengths (drop v.head q) v.head m) (sym (take-length v.queue)) content.content;
            fits = fits;
            sealed = (length v.signed, leaf, slice_get-push v.signed s, sealed);
          };
      accused = is.accused;
      leaves = (omega (arith, leaf, length-append v.signed (s ∷ [])), is.leaves.1);
      honest = λ b. let h = is.honest b in record {
        kinds = All-push (λ (t : Statement). IsTrue (is_submission t || is_rebuttal t)) v.signed s h.kinds refl;
        submissions = filter-append is_submission v.signed (s ∷ []) ∙ ap (λ l. l ++ s ∷ []) h.submissions ∙ sym (map-append (submission_of v.who) v.made (m ∷ []));
        rebuttals = subst (RebutEach v.answered) (sym (filter-append is_rebuttal v.signed (s ∷ []) ∙ append-nil (filter is_rebuttal v.signed))) h.rebuttals;
        accusations = h.accusations;
      };
    }

-- the envelope is no part of what is to be made
pub enveloped : (v : ClientView) (r : Round) (m : Made) (envelope : List ℕ) → IsUnsigned v r m → IsUnsigned v r (record m { envelope = envelope })
enveloped v r m envelope is = record {
  round = is.round;
  prev = is.prev;
  lengths = is.lengths;
  after = is.after;
  content = record { range = is.content.range; carried = is.content.carried; plain = is.content.plain; cipher = is.content.cipher; digest = is.content.digest };
}

-- ---- statements of others

-- a client is bent
pub bends : (v : ClientView) (spent : Bool) → IsClient v → IsClient (record v { bent = true; spent = spent })
bends v spent is = record {
  chain = is.chain;
  slot = is.slot;
  keys = is.keys;
  seeds = is.seeds;
  texts = is.texts;
  head = is.head;
  ascends = is.ascends;
  made = is.made;
  accused = is.accused;
  leaves = is.leaves;
  honest = λ b. absurd cc;
}

-- its key signs any statement
pub signs : (v : ClientView) (s : Statement) → length v.signed < leaf_count v.who.key → IsClient v → IsClient (record v { signed = v.signed ++ s ∷ []; bent = true })
signs v s leaf is = record {
  chain = is.chain;
  slot = is.slot;
  keys = is.keys;
  seeds = is.seeds;
  texts = is.texts;
  head = is.head;
  ascends = is.ascends;
  made = λ k d within. signed_more v.who v.chain v.queue v.signed s (get_or v.made k d) (is.made k d within);
  accused = is.accused;
  leaves = (omega (arith, leaf, length-append v.signed (s ∷ [])), is.leaves.1);
  honest = λ b. absurd cc;
}

-- its slot's key signs any statement
pub signs_as_slot : (v : ClientView) (s : Statement) → length v.signed_as_slot < leaf_count v.who.slot_key → IsClient v
    → IsClient (record v { signed_as_slot = v.signed_as_slot ++ s ∷ []; bent = true })
signs_as_slot v s leaf is = record {
  chain = is.chain;
  slot = is.slot;
  keys = is.keys;
  seeds = is.seeds;
  texts = is.texts;
  head = is.head;
  ascends = is.ascends;
  made = is.made;
  accused = λ k d within. accused_more v.who v.chain v.signed_as_slot s (get_or v.accused k d) (is.accused k d within);
  leaves = (is.leaves.0, omega (arith, leaf, length-append v.signed_as_slot (s ∷ [])));
  honest = λ b. absurd cc;
}
