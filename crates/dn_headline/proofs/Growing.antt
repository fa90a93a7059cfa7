-- What holds in a run holds in the run after a call.
use Rattle.std.proofs.Common.{◌≡◌, ℕ, zero, suc, ◌<◌, ◌≤◌, List, [], ◌∷◌, ◌++◌, length, refl, sym, ap, subst, ◌∙◌, arith, inl, inr, Bool}
use Rattle.std.specs.Prelude.{Contains, Some, slice_get, ◌⊎◌}
use Rattle.std.proofs.lemmas.Bool.{cases_lt}
use Rattle.std.proofs.lemmas.Option.{slice_get_within}
use Rattle.std.proofs.lemmas.List.Elements.{Contains-append_left, All-weaker}
use Rattle.dn_wire.specs.declared.ids.ClientId.{ClientId}
use Rattle.dn_wire.specs.declared.ids.ServerId.{ServerId}
use Rattle.dn_wire.specs.declared.ids.Round.{Round}
use Rattle.dn_wire.specs.declared.ids.SignerId.{SignerId}
use Rattle.dn_wire.specs.declared.ids.SignerId.TheVariants.{Client, Server, Slot}
use Rattle.dn_told.specs.declared.told.WindowTold.TheVariants as tolds
use Rattle.dn_record_types.specs.declared.body.Body.{Body}
use Rattle.dn_record_types.specs.declared.inventory.Inventory.{Inventory}
use Rattle.dn_record_types.specs.declared.shown.ShownCipher.{ShownCipher}
use Rattle.dn_record_types.specs.declared.statement.Statement.{Statement}
use Rattle.dn_record_types.specs.declared.statement.Statement.TheVariants as kinds
use Rattle.dn_record_types.specs.declared.statement.WordTold.{WordTold}
use Rattle.dn_cert.specs.Chain.{ChainView, bodies, LayoutAfter, IsLayoutAfter}
use Rattle.dn_cert.specs.Floor.{is_due_thin}
use Rattle.dn_layout.specs.Layout.{bits_of}
use Rattle.dn_cert.proofs.ChainLemmas.{layout_stays}
use Rattle.dn_report.specs.declared.outcome.Outcome.{Outcome}
use Rattle.dn_report.specs.declared.outcome.Outcome.TheVariants as outcomes
use Rattle.dn_headline.specs.Log.{Step, Put}
use Rattle.dn_headline.specs.Run.{RunView, PlainMade, SumMade, log}
use Rattle.dn_headline.specs.Spoken.{WasSaid, WasSubmitted, HadSigned, Signed}
use Rattle.dn_headline.specs.Certified.{IsCertified, IsCertifiedAt, IsLayoutOf}
use Rattle.dn_headline.specs.Submissions.{WasTold}
use Rattle.dn_headline.specs.Delivered.{HasCertificate}
use Rattle.dn_headline.specs.Heard.{IsHeard}
use Rattle.dn_headline.specs.Verdict.{IsVerdictOf}
use Rattle.dn_headline.specs.Invariant.{Facts, Signs, WasIncluded, IsJustified, FitsReceipt, FitsInventory, FitsReveal, HasSignedBody, FitsPadBits, FitsShown, IsFull, FitsServer, FitsSubmission, FitsClient, SpoilCause, seat_of}
use Rattle.dn_headline.specs.Invariant.SpoilCause.{by_twice, by_prev, by_entry, by_length, by_commit, by_forgery, by_body}
use Rattle.dn_headline.specs.Step.{Grows, ChainGrows, IsNewlySigned}
use Rattle.dn_headline.proofs.Justifying.{HasMore, inventories_grow, justified_grows}

place_kept : {A : Type 0} (xs ys : List A) (i : ℕ) (x : A) → slice_get xs i ≡ Some x → slice_get (xs ++ ys) i ≡ Some x
place_kept [] ys i x h = absurd cc
place_kept (y ∷ xs) ys zero x h = h
place_kept (y ∷ xs) ys (suc i) x h = place_kept xs ys i x h

place_was : {A : Type 0} (xs ys : List A) (i : ℕ) (x : A) → i < length xs → slice_get (xs ++ ys) i ≡ Some x → slice_get xs i ≡ Some x
place_was [] ys i x lt h = absurd (omega arith)
place_was (y ∷ xs) ys zero x lt h = h
place_was (y ∷ xs) ys (suc i) x lt h = place_was xs ys i x (omega arith) h

pub chain_layout_stays : (chain more : ChainView) (r : ℕ) (layout : List ℕ) → ChainGrows chain more → IsLayoutAfter chain r layout → IsLayoutAfter more r layout
chain_layout_stays chain more r layout grows after =
    subst (λ (n : ℕ). LayoutAfter n (bodies more) r layout) (sym grows.slots) (layout_stays chain.slots (bodies chain) (bodies more) grows.held r layout after)

module _ (w : RunView) (history : List Step) (plains : List PlainMade) (sums : List SumMade) (lines : List Outcome) where
  abbrev pub then : RunView
  then = record { group = w.group; history = history; plains = plains; sums = sums }

  module _ (grows : Grows w then lines) where
    pub put_stays : (p : Put) → Contains (log w).puts p → Contains (log then).puts p
    put_stays p h = subst (λ (ps : List Put). Contains ps p) (sym grows.puts) (Contains-append_left (log w).puts grows.more p h)

    pub place_stays : (n : ℕ) (p : Put) → slice_get (log w).puts n ≡ Some p → slice_get (log then).puts n ≡ Some p
    place_stays n p h = subst (λ (ps : List Put). slice_get ps n ≡ Some p) (sym grows.puts) (place_kept (log w).puts grows.more n p h)

    pub said_stays : (who : SignerId) (s : Statement) → WasSaid w who s → WasSaid then who s
    said_stays who s h = record { put = h.put; there = put_stays h.put h.there; says = h.says }

    pub submitted_stays : (who : SignerId) (s : Statement) (cipher : List Bool) → WasSubmitted w who s cipher → WasSubmitted then who s cipher
    submitted_stays who s cipher h = record { put = h.put; there = put_stays h.put h.there; submits = h.submits }

    pub had_stays : (n : ℕ) (who : SignerId) (s : Statement) → HadSigned w n who s → HadSigned then n who s
    had_stays n who s h = record { at = h.at; by_then = h.by_then; put = h.put; there = place_stays h.at h.put h.there; own = h.own; key = h.key; front = h.front }

    pub signed_stays : (who : SignerId) (s : Statement) → Signed w who s → Signed then who s
    signed_stays who s h = record { n = h.n; had = had_stays h.n who s h.had }

    pub newly_is_signed : (who : SignerId) (s : Statement) → IsNewlySigned w then who s → Signed then who s
    newly_is_signed who s h = record {
      n = h.at;
      had = record { at = h.at; by_then = omega arith; put = h.put; there = h.there; own = h.own; key = h.key; front = h.front };
    }

    -- what had been signed by a put was signed before the call, or newly
    pub had_cases : (n : ℕ) (who : SignerId) (s : Statement) → HadSigned then n who s → HadSigned w n who s ⊎ (IsNewlySigned w then who s × (length (log w).puts ≤ n))
    had_cases n who s h =
        elim (cases_lt h.at (length (log w).puts)) [
          | inl lt ↦ inl (record {
            at = h.at;
            by_then = h.by_then;
            put = h.put;
            there = place_was (log w).puts grows.more h.at h.put lt (subst (λ (ps : List Put). slice_get ps h.at ≡ Some h.put) grows.puts h.there);
            own = h.own;
            key = h.key;
            front = h.front;
          })
          | inr ge ↦
              let by_then = h.by_then in
              inr (record { at = h.at; new = ge; put = h.put; there = h.there; own = h.own; key = h.key; front = h.front }, omega arith)
        ]

    pub signed_cases : (who : SignerId) (s : Statement) → Signed then who s → Signed w who s ⊎ IsNewlySigned w then who s
    signed_cases who s h = elim (had_cases h.n who s h.had) [ inl old ↦ inl (record { n = h.n; had = old }) | inr new ↦ inr new.0 ]

    pub certified_stays : (b : Body) → IsCertified w b → IsCertified then b
    certified_stays b h = record { put = h.put; there = put_stays h.put h.there; certificate = h.certificate; is = h.is; body = h.body }

    pub certified_at_stays : (m : ℕ) (b : Body) → IsCertifiedAt w m b → IsCertifiedAt then m b
    certified_at_stays m b h = record { put = h.put; there = place_stays m h.put h.there; certificate = h.certificate; is = h.is; body = h.body }

    pub run_layout_stays : (r : ℕ) (layout : List ℕ) → IsLayoutOf w r layout → IsLayoutOf then r layout
    run_layout_stays r layout h = record {
      bodies = h.bodies;
      certified = All-weaker (IsCertified w) (IsCertified then) certified_stays h.bodies h.certified;
      after = h.after;
    }

    pub included_stays : (j : ServerId) (s : Statement) (cipher : List Bool) → WasIncluded w j s cipher → WasIncluded then j s cipher
    included_stays j (kinds.Submission r prev i digest) cipher h =
        (grows.happened (outcomes.Told i j r tolds.Included) h.0, submitted_stays (Client i) (kinds.Submission r prev i digest) cipher h.1)
    included_stays j _ cipher h = absurd h

    pub certificate_stays : (j : ServerId) (r : Round) → HasCertificate w j r → HasCertificate then j r
    certificate_stays j r h = elim h [ inl a ↦ inl (grows.happened _ a) | inr a ↦ inr (grows.happened _ a) ]

    module _ (f g : Facts) (j : ServerId) (chain : ChainGrows (f.server j).chain (g.server j).chain) (has : HasMore (f.server j).chain (g.server j).chain)
        (signs : (s : Statement) → Signs f j s → Signs g j s) where
      pub justified_stays : (b : Body) → IsJustified w f j b → IsJustified then g j b
      justified_stays b just =
          justified_grows (WasSaid w) (WasSaid then) (WasIncluded w j) (WasIncluded then j) said_stays (included_stays j) (seat_of w.group j)
          (f.server j).chain (g.server j).chain b has just

      receipt_stays : (r : Round) (i : ClientId) (digest : List ℕ) (word : WordTold) → FitsReceipt w j r i digest word → FitsReceipt then j r i digest word
      receipt_stays r i digest word h = record {
        told = grows.happened _ h.told;
        prev = h.prev;
        cipher = h.cipher;
        submitted = submitted_stays _ _ h.cipher h.submitted;
      }

      -- an inventory's clients are those told Included, as long as no further one is
      inventory_stays : (v : Inventory) → ((i : ClientId) → WasTold then j i v.r tolds.Included → WasTold w j i v.r tolds.Included) → FitsInventory w f j v → FitsInventory then g j v
      inventory_stays v no_more h = record {
        opened = grows.happened _ h.opened;
        included = λ i. (λ t. (h.included i).0 (no_more i t), λ n. grows.happened (outcomes.Told i j v.r tolds.Included) ((h.included i).1 n));
        verify = h.verify;
        receipts = λ e there. signs _ (h.receipts e there);
      }

      full_stays : (r : Round) → IsFull w f j r → IsFull then g j r
      full_stays r h = record {
        prev = h.prev;
        opened = grows.happened _ h.opened;
        layout = h.layout;
        after = has.layouts h.prev.0 h.layout h.after;
        inventories = h.inventories;
        listed = h.listed;
        heard = inventories_grow (WasSaid w) (WasSaid then) (WasIncluded w j) (WasIncluded then j) said_stays (included_stays j) (seat_of w.group j) (record { r = r; prev = h.prev; bits = bits_of h.layout }) h.inventories h.heard;
        trim = h.trim;
        full = ap (is_due_thin w.group.roster.version (length h.listed)) (has.counts h.prev.0 h.layout h.after) ∙ h.full;
      }

      reveal_stays : (r : Round) (sum : List Bool) → FitsReveal w f j r sum → FitsReveal then g j r sum
      reveal_stays r sum h = record {
        committed = signs _ h.committed;
        made = grows.sums _ h.made;
        prev = h.prev;
        opened = grows.happened _ h.opened;
        layout = h.layout;
        after = chain_layout_stays (f.server j).chain (g.server j).chain h.prev.0 h.layout chain h.after;
        long = h.long;
      }

      signed_body_stays : (r : Round) → HasSignedBody w f j r → HasSignedBody then g j r
      signed_body_stays r h = record { body = h.body; held = chain.held h.body h.held; round = h.round; signed = signs _ h.signed; full = h.full }

      pad_bits_stay : (r : Round) (k : ℕ) (bits : List Bool) → FitsPadBits w f j r k bits → FitsPadBits then g j r k bits
      unfolding signed_body_stays
      pad_bits_stay r k bits h = record { of = signed_body_stays r h.of; within = h.within; each = h.each; listed = h.listed; others = h.others }

      shown_stays : (r : Round) (sum : List Bool) (ciphers : List ShownCipher) → FitsShown w f j r sum ciphers → FitsShown then g j r sum ciphers
      unfolding signed_body_stays
      shown_stays r sum ciphers h = record {
        of = signed_body_stays r h.of;
        layout = h.layout;
        after = chain_layout_stays (f.server j).chain (g.server j).chain h.of.body.prev.0 h.layout chain h.after;
        rows = h.rows;
        itself = h.itself;
        digest = h.digest;
      }

      -- what fits a server still does; of its inventories, as long as no further client is told Included
      pub server_fits_still : (s : Statement)
          → ((v : Inventory) (i : ClientId) → s ≡ kinds.Inventory v → WasTold then j i v.r tolds.Included → WasTold w j i v.r tolds.Included)
          → FitsServer w f j s → FitsServer then g j s
      server_fits_still (kinds.Submission r prev i digest) no_more h = h
      server_fits_still (kinds.Receipt r i digest word) no_more h = receipt_stays r i digest word h
      server_fits_still (kinds.Inventory v) no_more h = inventory_stays v (λ i t. no_more v i refl t) h
      server_fits_still (kinds.Commit r digest) no_more h = full_stays r h
      server_fits_still (kinds.Reveal r sum) no_more h = reveal_stays r sum h
      server_fits_still (kinds.Sign b) no_more h = justified_stays b h
      server_fits_still (kinds.PadBits r k bits) no_more h = pad_bits_stay r k bits h
      server_fits_still (kinds.Shown r sum ciphers) no_more h = shown_stays r sum ciphers h
      server_fits_still (kinds.Accusation r s k) no_more h = h
      server_fits_still (kinds.Rebuttal r k x seed envelope) no_more h = h
      server_fits_still (kinds.Concede r k) no_more h = h

      pub cause_stays : (r : Round) (x : ServerId) → SpoilCause w f j r x → SpoilCause then g j r x
      cause_stays r x (by_twice place s t ss st ps pt differ) = by_twice place s t (said_stays _ s ss) (said_stays _ t st) ps pt differ
      cause_stays r x (by_prev v p said round opened differ) = by_prev v p (said_stays _ _ said) round (grows.happened _ opened) differ
      cause_stays r x (by_entry v said not) = by_entry v (said_stays _ _ said) not
      cause_stays r x (by_length sum p layout said opened after differ) =
          by_length sum p layout (said_stays _ _ said) (grows.happened _ opened) (chain_layout_stays (f.server j).chain (g.server j).chain p.0 layout chain after) differ
      cause_stays r x (by_commit sum digest revealed committed differ) = by_commit sum digest (said_stays _ _ revealed) (said_stays _ _ committed) differ
      cause_stays r x (by_forgery n put s itself there says not) =
          by_forgery n put s itself (place_stays n put there) says (λ had. elim (had_cases n (Server j) s had) [
            | inl old ↦ not old
            | inr new ↦ let within = slice_get_within (log w).puts n put there in let past = new.1 in omega arith
          ])
      cause_stays r x (by_body own other round other_round just said differ) = by_body own other round other_round (justified_stays own just) (said_stays _ _ said) differ

    module _ (f g : Facts) (i : ClientId) (chain : ChainGrows (f.client i).chain (g.client i).chain) where
      submission_stays : (r prev : Round) (client : ClientId) (digest : List ℕ) → FitsSubmission w f i r prev client digest → FitsSubmission then g i r prev client digest
      submission_stays r prev client digest h = record {
        itself = h.itself;
        made = h.made;
        of_run = grows.plains h.made h.of_run;
        is = h.is;
        layout = h.layout;
        after = chain_layout_stays (f.client i).chain (g.client i).chain prev.0 h.layout chain h.after;
        long = h.long;
        hashed = h.hashed;
        submitted = submitted_stays _ _ _ h.submitted;
      }

      pub client_fits_still : (s : Statement) → FitsClient w f i s → FitsClient then g i s
      client_fits_still (kinds.Submission r prev client digest) h = submission_stays r prev client digest h
      client_fits_still (kinds.Rebuttal r k x seed envelope) h = record {
        seed_is = h.seed_is;
        server = h.server;
        bits = h.bits;
        unseals = h.unseals;
        differs = h.differs;
      }
      client_fits_still _ h = absurd h

    -- what was heard is heard
    pub heard_stays : (who : SignerId) (s : Statement) → IsHeard w who s → IsHeard then who s
    heard_stays (Server j) s h = said_stays (Server j) s h
    heard_stays (Client i) s h = record { message = h.message; there = grows.delivered h.message h.there; server = h.server; to = h.to; front = h.front }
    heard_stays (Slot k) s h = record { message = h.message; there = grows.delivered h.message h.there; server = h.server; to = h.to; front = h.front }

    pub verdict_stays : (r : Round) (k : ℕ) (told : List Outcome) → IsVerdictOf w r k told → IsVerdictOf then r k told
    verdict_stays r k told v = record {
      trial = v.trial;
      roster = v.roster;
      round = v.round;
      place = v.place;
      certified = certified_stays v.trial.body v.certified;
      layout = run_layout_stays v.trial.body.prev.0 v.trial.layout v.layout;
      full = v.full;
      within = v.within;
      held = v.held;
      heard = λ who s h. heard_stays who s (v.heard who s h);
      blamed = v.blamed;
      silent = v.silent;
      verdict = v.verdict;
      told = v.told;
    }
