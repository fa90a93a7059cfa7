-- Whether two statements are one can be decided.
use Rattle.std.proofs.Common.{◌≡◌, ℕ, List, [], refl, sym, ap, ◌∙◌, arith, inl, inr, Bool, false}
use Rattle.std.specs.Prelude.{◌==◌, if◌then◌else◌}
use Rattle.dn_wire.specs.declared.ids.ClientId.{ClientId}
use Rattle.dn_wire.specs.declared.ids.ServerId.{ServerId}
use Rattle.dn_wire.specs.declared.ids.SlotId.{SlotId}
use Rattle.dn_wire.specs.declared.ids.Round.{Round}
use Rattle.dn_wire.specs.declared.ids.Member.{Member}
use Rattle.dn_wire.specs.declared.ids.Member.TheVariants as members
use Rattle.dn_wire.specs.declared.ids.SignerId.{SignerId}
use Rattle.dn_wire.specs.declared.ids.SignerId.TheVariants as signers
use Rattle.dn_record_types.specs.declared.body.Body.{Body}
use Rattle.dn_record_types.specs.declared.body.Listed.{Listed}
use Rattle.dn_record_types.specs.declared.inventory.Entry.{Entry}
use Rattle.dn_record_types.specs.declared.inventory.Inventory.{Inventory}
use Rattle.dn_record_types.specs.declared.shown.ShownCipher.{ShownCipher}
use Rattle.dn_record_types.specs.declared.statement.Statement.{Statement}
use Rattle.dn_record_types.specs.declared.statement.Statement.TheVariants as kinds
use Rattle.dn_record_types.specs.declared.statement.WordTold.{WordTold}
use Rattle.dn_record_types.specs.declared.statement.WordTold.TheVariants as words
use Rattle.dn_headline.proofs.Deciding.{Decided, decide_eq, decide_bool, decide_bytes, decide_bits, decide_lists}

same_round : (a b : Round) → Decided (a ≡ b)
same_round a b = elim (decide_eq a.0 b.0) [ inl e ↦ inl (λ t. record { 0 = e t }) | inr ne ↦ inr (λ e. ne (ap (λ (x : Round). x.0) e)) ]

same_client : (a b : ClientId) → Decided (a ≡ b)
same_client a b = elim (decide_eq a.0 b.0) [ inl e ↦ inl (λ t. record { 0 = e t }) | inr ne ↦ inr (λ e. ne (ap (λ (x : ClientId). x.0) e)) ]

same_server : (a b : ServerId) → Decided (a ≡ b)
same_server a b = elim (decide_eq a.0 b.0) [ inl e ↦ inl (λ t. record { 0 = e t }) | inr ne ↦ inr (λ e. ne (ap (λ (x : ServerId). x.0) e)) ]

same_slot : (a b : SlotId) → Decided (a ≡ b)
same_slot a b = elim (decide_eq a.0 b.0) [ inl e ↦ inl (λ t. record { 0 = e t }) | inr ne ↦ inr (λ e. ne (ap (λ (x : SlotId). x.0) e)) ]

word_number : WordTold → ℕ
word_number words.Included = 0
word_number words.Late = 1

same_word : (a b : WordTold) → Decided (a ≡ b)
unfolding word_number
same_word words.Included words.Included = inl refl
same_word words.Late words.Late = inl refl
same_word words.Included words.Late = inr (λ e. let n = ap word_number e in omega (arith, n))
same_word words.Late words.Included = inr (λ e. let n = ap word_number e in omega (arith, n))

same_entry : (a b : Entry) → Decided (a ≡ b)
same_entry a b =
    elim (same_client a.client b.client) [
      | inr ne ↦ inr (λ e. ne (ap (λ (x : Entry). x.client) e))
      | inl c ↦ elim (decide_bytes a.digest b.digest) [
        | inr ne ↦ inr (λ e. ne (ap (λ (x : Entry). x.digest) e))
        | inl d ↦ elim (decide_bytes a.signature b.signature) [
          | inr ne ↦ inr (λ e. ne (ap (λ (x : Entry). x.signature) e))
          | inl s ↦ inl (λ t. record { client = c t; digest = d t; signature = s t })
        ]
      ]
    ]

same_inventory : (a b : Inventory) → Decided (a ≡ b)
same_inventory a b =
    elim (same_round a.r b.r) [
      | inr ne ↦ inr (λ e. ne (ap (λ (x : Inventory). x.r) e))
      | inl c ↦ elim (same_round a.prev b.prev) [
        | inr ne ↦ inr (λ e. ne (ap (λ (x : Inventory). x.prev) e))
        | inl d ↦ elim (decide_lists same_entry a.entries b.entries) [
          | inr ne ↦ inr (λ e. ne (ap (λ (x : Inventory). x.entries) e))
          | inl s ↦ inl (λ t. record { r = c t; prev = d t; entries = s t })
        ]
      ]
    ]

same_listed : (a b : Listed) → Decided (a ≡ b)
same_listed a b =
    elim (same_client a.client b.client) [
      | inr ne ↦ inr (λ e. ne (ap (λ (x : Listed). x.client) e))
      | inl c ↦ elim (same_server a.server b.server) [
        | inr ne ↦ inr (λ e. ne (ap (λ (x : Listed). x.server) e))
        | inl s ↦ elim (decide_bytes a.digest b.digest) [
          | inr ne ↦ inr (λ e. ne (ap (λ (x : Listed). x.digest) e))
          | inl d ↦ inl (λ t. record { client = c t; server = s t; digest = d t })
        ]
      ]
    ]

same_body : (a b : Body) → Decided (a ≡ b)
same_body a b =
    elim (decide_eq a.version b.version) [
      | inr ne ↦ inr (λ e. ne (ap (λ (x : Body). x.version) e))
      | inl version ↦ elim (same_round a.r b.r) [
        | inr ne ↦ inr (λ e. ne (ap (λ (x : Body). x.r) e))
        | inl r ↦ elim (same_round a.prev b.prev) [
          | inr ne ↦ inr (λ e. ne (ap (λ (x : Body). x.prev) e))
          | inl prev ↦ elim (decide_bool a.thin b.thin) [
            | inr ne ↦ inr (λ e. ne (ap (λ (x : Body). x.thin) e))
            | inl thin ↦ elim (decide_lists same_listed a.listed b.listed) [
              | inr ne ↦ inr (λ e. ne (ap (λ (x : Body). x.listed) e))
              | inl listed ↦ elim (decide_lists decide_bytes a.digests b.digests) [
                | inr ne ↦ inr (λ e. ne (ap (λ (x : Body). x.digests) e))
                | inl digests ↦ elim (decide_bits a.out b.out) [
                  | inr ne ↦ inr (λ e. ne (ap (λ (x : Body). x.out) e))
                  | inl out ↦ inl (λ t. record { version = version t; r = r t; prev = prev t; thin = thin t; listed = listed t; digests = digests t; out = out t })
                ]
              ]
            ]
          ]
        ]
      ]
    ]

same_shown : (a b : ShownCipher) → Decided (a ≡ b)
same_shown a b =
    elim (same_client a.client b.client) [
      | inr ne ↦ inr (λ e. ne (ap (λ (x : ShownCipher). x.client) e))
      | inl c ↦ elim (decide_bits a.cipher b.cipher) [
        | inr ne ↦ inr (λ e. ne (ap (λ (x : ShownCipher). x.cipher) e))
        | inl d ↦ inl (λ t. record { client = c t; cipher = d t })
      ]
    ]

-- ---- statements: their fields, with fillings for those that a kind hasn't

record Fields : Type 0 where
  kind : ℕ
  r : Round
  prev : Round
  client : ClientId
  server : ServerId
  slot : SlotId
  k : ℕ
  bytes : List ℕ
  more : List ℕ
  bits : List Bool
  word : WordTold
  inventory : Inventory
  body : Body
  shown : List ShownCipher

zero_round : Round
zero_round = record { 0 = 0 }

no_inventory : Inventory
no_inventory = record { r = zero_round; prev = zero_round; entries = [] }

no_body : Body
no_body = record { version = 0; r = zero_round; prev = zero_round; thin = false; listed = []; digests = []; out = [] }

blank : ℕ → Fields
blank n = record {
  kind = n;
  r = zero_round;
  prev = zero_round;
  client = record { 0 = 0 };
  server = record { 0 = 0 };
  slot = record { 0 = 0 };
  k = 0;
  bytes = [];
  more = [];
  bits = [];
  word = words.Late;
  inventory = no_inventory;
  body = no_body;
  shown = [];
}

fields_of : Statement → Fields
fields_of (kinds.Submission r p i d) = record (blank 1) { r = r; prev = p; client = i; bytes = d }
fields_of (kinds.Receipt r i d t) = record (blank 2) { r = r; client = i; bytes = d; word = t }
fields_of (kinds.Inventory v) = record (blank 3) { inventory = v }
fields_of (kinds.Commit r d) = record (blank 4) { r = r; bytes = d }
fields_of (kinds.Reveal r s) = record (blank 5) { r = r; bits = s }
fields_of (kinds.Sign b) = record (blank 6) { body = b }
fields_of (kinds.PadBits r k bs) = record (blank 7) { r = r; k = k; bits = bs }
fields_of (kinds.Shown r s xs) = record (blank 8) { r = r; bits = s; shown = xs }
fields_of (kinds.Accusation r s k) = record (blank 9) { r = r; slot = s; k = k }
fields_of (kinds.Rebuttal r k j seed e) = record (blank 10) { r = r; k = k; server = j; bytes = seed; more = e }
fields_of (kinds.Concede r k) = record (blank 11) { r = r; k = k }

statement_of : ℕ → Fields → Statement
statement_of n f =
    if n == 1 then kinds.Submission f.r f.prev f.client f.bytes
    else if n == 2 then kinds.Receipt f.r f.client f.bytes f.word
    else if n == 3 then kinds.Inventory f.inventory
    else if n == 4 then kinds.Commit f.r f.bytes
    else if n == 5 then kinds.Reveal f.r f.bits
    else if n == 6 then kinds.Sign f.body
    else if n == 7 then kinds.PadBits f.r f.k f.bits
    else if n == 8 then kinds.Shown f.r f.bits f.shown
    else if n == 9 then kinds.Accusation f.r f.slot f.k
    else if n == 10 then kinds.Rebuttal f.r f.k f.server f.bytes f.more
    else kinds.Concede f.r f.k

again : (s : Statement) → statement_of (fields_of s).kind (fields_of s) ≡ s
unfolding statement_of fields_of blank
again (kinds.Submission r p i d) = refl
again (kinds.Receipt r i d t) = refl
again (kinds.Inventory v) = refl
again (kinds.Commit r d) = refl
again (kinds.Reveal r s) = refl
again (kinds.Sign b) = refl
again (kinds.PadBits r k bs) = refl
again (kinds.Shown r s xs) = refl
again (kinds.Accusation r s k) = refl
again (kinds.Rebuttal r k j seed e) = refl
again (kinds.Concede r k) = refl

same_fields : (a b : Fields) → Decided (a ≡ b)
same_fields a b =
    elim (decide_eq a.kind b.kind) [
      | inr ne ↦ inr (λ e. ne (ap (λ (x : Fields). x.kind) e))
      | inl kind ↦ elim (same_round a.r b.r) [
        | inr ne ↦ inr (λ e. ne (ap (λ (x : Fields). x.r) e))
        | inl r ↦ elim (same_round a.prev b.prev) [
          | inr ne ↦ inr (λ e. ne (ap (λ (x : Fields). x.prev) e))
          | inl prev ↦ elim (same_client a.client b.client) [
            | inr ne ↦ inr (λ e. ne (ap (λ (x : Fields). x.client) e))
            | inl client ↦ elim (same_server a.server b.server) [
              | inr ne ↦ inr (λ e. ne (ap (λ (x : Fields). x.server) e))
              | inl server ↦ elim (same_slot a.slot b.slot) [
                | inr ne ↦ inr (λ e. ne (ap (λ (x : Fields). x.slot) e))
                | inl slot ↦ elim (decide_eq a.k b.k) [
                  | inr ne ↦ inr (λ e. ne (ap (λ (x : Fields). x.k) e))
                  | inl k ↦ elim (decide_bytes a.bytes b.bytes) [
                    | inr ne ↦ inr (λ e. ne (ap (λ (x : Fields). x.bytes) e))
                    | inl bytes ↦ elim (decide_bytes a.more b.more) [
                      | inr ne ↦ inr (λ e. ne (ap (λ (x : Fields). x.more) e))
                      | inl more ↦ elim (decide_bits a.bits b.bits) [
                        | inr ne ↦ inr (λ e. ne (ap (λ (x : Fields). x.bits) e))
                        | inl bits ↦ elim (same_word a.word b.word) [
                          | inr ne ↦ inr (λ e. ne (ap (λ (x : Fields). x.word) e))
                          | inl word ↦ elim (same_inventory a.inventory b.inventory) [
                            | inr ne ↦ inr (λ e. ne (ap (λ (x : Fields). x.inventory) e))
                            | inl inventory ↦ elim (same_body a.body b.body) [
                              | inr ne ↦ inr (λ e. ne (ap (λ (x : Fields). x.body) e))
                              | inl body ↦ elim (decide_lists same_shown a.shown b.shown) [
                                | inr ne ↦ inr (λ e. ne (ap (λ (x : Fields). x.shown) e))
                                | inl shown ↦ inl (λ t. record {
                                  kind = kind t;
                                  r = r t;
                                  prev = prev t;
                                  client = client t;
                                  server = server t;
                                  slot = slot t;
                                  k = k t;
                                  bytes = bytes t;
                                  more = more t;
                                  bits = bits t;
                                  word = word t;
                                  inventory = inventory t;
                                  body = body t;
                                  shown = shown t;
                                })
                              ]
                            ]
                          ]
                        ]
                      ]
                    ]
                  ]
                ]
              ]
            ]
          ]
        ]
      ]
    ]

pub same_statement : (s t : Statement) → Decided (s ≡ t)
same_statement s t =
    elim (same_fields (fields_of s) (fields_of t)) [
      | inl e ↦ inl (sym (again s) ∙ ap (λ (f : Fields). statement_of f.kind f) e ∙ again t)
      | inr ne ↦ inr (λ e. ne (ap fields_of e))
    ]

-- ---- signers and members

signer_code : SignerId → ℕ × ℕ
signer_code (signers.Client i) = (0, i.0)
signer_code (signers.Server j) = (1, j.0)
signer_code (signers.Slot k) = (2, k.0)

pub same_signer : (a b : SignerId) → Decided (a ≡ b)
unfolding signer_code
same_signer (signers.Client i) (signers.Client k) = elim (decide_eq i.0 k.0) [ inl e ↦ inl (λ t. signers.Client (record { 0 = e t })) | inr ne ↦ inr (λ e. ne (ap (λ x. (signer_code x).1) e)) ]
same_signer (signers.Server i) (signers.Server k) = elim (decide_eq i.0 k.0) [ inl e ↦ inl (λ t. signers.Server (record { 0 = e t })) | inr ne ↦ inr (λ e. ne (ap (λ x. (signer_code x).1) e)) ]
same_signer (signers.Slot i) (signers.Slot k) = elim (decide_eq i.0 k.0) [ inl e ↦ inl (λ t. signers.Slot (record { 0 = e t })) | inr ne ↦ inr (λ e. ne (ap (λ x. (signer_code x).1) e)) ]
same_signer (signers.Client i) (signers.Server k) = inr (λ e. let n = ap (λ x. (signer_code x).0) e in omega (arith, n))
same_signer (signers.Client i) (signers.Slot k) = inr (λ e. let n = ap (λ x. (signer_code x).0) e in omega (arith, n))
same_signer (signers.Server i) (signers.Client k) = inr (λ e. let n = ap (λ x. (signer_code x).0) e in omega (arith, n))
same_signer (signers.Server i) (signers.Slot k) = inr (λ e. let n = ap (λ x. (signer_code x).0) e in omega (arith, n))
same_signer (signers.Slot i) (signers.Client k) = inr (λ e. let n = ap (λ x. (signer_code x).0) e in omega (arith, n))
same_signer (signers.Slot i) (signers.Server k) = inr (λ e. let n = ap (λ x. (signer_code x).0) e in omega (arith, n))

member_code : Member → ℕ × ℕ
member_code (members.Client i) = (0, i.0)
member_code (members.Server j) = (1, j.0)

pub same_member : (a b : Member) → Decided (a ≡ b)
unfolding member_code
same_member (members.Client i) (members.Client k) = elim (decide_eq i.0 k.0) [ inl e ↦ inl (λ t. members.Client (record { 0 = e t })) | inr ne ↦ inr (λ e. ne (ap (λ x. (member_code x).1) e)) ]
same_member (members.Server i) (members.Server k) = elim (decide_eq i.0 k.0) [ inl e ↦ inl (λ t. members.Server (record { 0 = e t })) | inr ne ↦ inr (λ e. ne (ap (λ x. (member_code x).1) e)) ]
same_member (members.Client i) (members.Server k) = inr (λ e. let n = ap (λ x. (member_code x).0) e in omega (arith, n))
same_member (members.Server i) (members.Client k) = inr (λ e. let n = ap (λ x. (member_code x).0) e in omega (arith, n))
