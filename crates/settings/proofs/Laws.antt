-- What configuring and clearing do to the bytes of a region is what the machine does to the channel. Assumes nothing.
use mathlib.Core.Path.{◌≡◌, refl, sym, ap, ap₂, ◌∙◌}
use Prim.Native.Nat.{ℕ}
use mathlib.Core.Bool.{false}
use mathlib.Core.List.{List, [], ◌++◌}
use lib.ListN.{length, take, drop}
use lib.Dec.{T}
use borrow.Author.Tests.{ne_eqb}
use borrow.Rule.Slice.PartMut.{put_mid}
use Rattle.codec.specs.Plain.{zeros}
use Rattle.codec.specs.Word.{word}
use Rattle.codec.specs.Code.{Code, byte, word32, both, via, such, mark, many, vacant, up_to, beside, each_via}
use Rattle.machine.specs.Filter.{none_yet}
use Rattle.machine.specs.Channel.{Chan, Config, opened, says, with_config, done_with, on_open, on_clear, get_in, set_in, on_get, set_to, on_set, clear, get_parameter, set_parameter}
use Rattle.machine.specs.Limits.{most_written}
use Rattle.layout.specs.Sizes.{receiving_at, written_at, periodics_at, filters_size, mapped_size, periodics_size, written_size, receiving_size, flags_at, config_size, filters_at}
use Rattle.layout.specs.Record.{row, body, rec36, out_cell, in_cell}
use Rattle.map_rule.specs.Map.{maps_size}
use Rattle.map_rule.proofs.Pack.{no_filters as no_maps}
use Rattle.derived.specs.Derived.{derived}
use Rattle.codec.proofs.Lists.{zeros_join}
use Rattle.layout.specs.Memory.{config, filter_columns, filters, mapped, periodic_columns, periodics, receiving_part}
use Rattle.layout.specs.Promise.{gives, Opened, call_outcome}
use Rattle.codec.proofs.Part.{part as part_of}
use Rattle.layout.proofs.Memory.{config_lawful}
use Rattle.layout.proofs.Sizes.{config_size_law}
use Rattle.layout.proofs.Places.{config_place, good}
use Rattle.layout.proofs.Region.{open_of, Part, kept, fine, stays, moves, filters_part, periodics_part, written_part, receiving_part_law}

-- ---- calls on an open channel

module _ (r : List ℕ) (o : Opened r) where
  configured : Part r config flags_at config_size (open_of r).config (with_config (open_of r))
  configured = part_of r (kept r o) config_size config_size_law (config_place (open_of r)) config_lawful (good (open_of r) (fine r o)).config_ok

  -- what get and set ask of the nine bytes
  pub lent : (length (take config_size (drop flags_at r)) ≡ config_size) × T (config.valid (take config_size (drop flags_at r)))
  lent = (configured.long, configured.valid)

  pub got : (rates : List ℕ) (t p k v : ℕ) → get_in (config.get (take config_size (drop flags_at r))) p ≡ (k, v) → gives k v [] r ≡ call_outcome rates t r (get_parameter p)
  unfolding on_open on_get
  got rates t p k v e =
      let g : get_in (open_of r).config p ≡ (k, v) = ap (λ (c : Config). get_in c p) (sym configured.got) ∙ e in
      stays r o rates t (get_parameter p) k v [] (ap (λ (x : ℕ × ℕ). (opened (open_of r), says x.0 x.1 [])) g)

  pub stored : (rates : List ℕ) (t p v k : ℕ) (ys : List ℕ)
      → (k ≡ (set_in rates (config.get (take config_size (drop flags_at r))) p v).0) × (ys ≡ config.put (set_in rates (config.get (take config_size (drop flags_at r))) p v).1)
      → gives k 0 [] (put_mid flags_at config_size r ys) ≡ call_outcome rates t r (set_parameter p v)
  unfolding on_open on_set set_to
  stored rates t p v k ys e =
      let c : Config = config.get (take config_size (drop flags_at r)) in
      moves r o rates t (set_parameter p v) (with_config (open_of r) (set_in rates c p v).1) k 0 [] _
      (ap (λ (c : Config). set_to (open_of r) (set_in rates c p v)) (sym configured.got) ∙ ap (λ (k : ℕ). (with_config (open_of r) (set_in rates c p v).1, says k 0 [])) (sym e.0))
      (configured.becomes ys _ e.1)

module _ (r : List ℕ) (o : Opened r) (rates : List ℕ) (t : ℕ) where
  -- clear: zeros over a part are the bytes of that part with nothing in it

  -- what a clear of n bytes from `off` on answers and leaves
  abbrev Cleared : ℕ → ℕ → ℕ → Type 0
  Cleared kind off n = (ys : List ℕ) → ys ≡ zeros (length (take n (drop off r))) → gives 0 0 [] (put_mid off n r ys) ≡ call_outcome rates t r (clear kind)

  cleared : {B : Type 0} {d : Code B} {off n : ℕ} {x : B} {w : B → Chan} → Part r d off n x w → (b : B) → d.put b ≡ zeros n → (kind : ℕ) → on_open rates t (open_of r) (clear kind) ≡ done_with (w b) 0 → Cleared kind off n
  unfolding done_with
  cleared {w = w} p b z kind m ys e = moves r o rates t (clear kind) (w b) 0 0 [] _ m (p.becomes ys b (e ∙ ap (λ (k : ℕ). zeros k) p.long ∙ sym z))

  no_written : (k : ℕ) → (up_to most_written (out_cell k)).put [] ≡ zeros written_size
  unfolding up_to out_cell rec36 body row via such both many word32 byte
  no_written k = refl

  no_queue : (k : ℕ) → (receiving_part k).put (record { queue = []; lost = false }) ≡ zeros receiving_size
  unfolding receiving_part up_to in_cell rec36 body row mark via such both many word32 byte
  no_queue k = refl

  no_periodics : (k : ℕ) → (periodics k).put none_yet ≡ zeros periodics_size
  unfolding none_yet periodics periodic_columns out_cell rec36 body row mark via such both many vacant beside each_via word32 byte word
  no_periodics k = refl

  no_filters : (k : ℕ) → (filters k).put none_yet ≡ zeros filters_size
  unfolding none_yet filters filter_columns row mark via such both many beside each_via byte
  no_filters k = refl

  -- and then the maps are zeros too
  no_mapped : (k : ℕ) → (mapped k).put none_yet ≡ zeros mapped_size
  unfolding mapped derived
  no_mapped k = ap₂ (λ (a b : List ℕ). a ++ b) (no_filters k) no_maps ∙ zeros_join filters_size maps_size mapped_size refl

  module _ (kind : ℕ) where
    pub clear_written : kind ≡ 1 → Cleared kind written_at written_size
    unfolding on_open on_clear
    clear_written e = cleared (written_part r o) [] (no_written _) kind (rw e refl)

    pub clear_queue : kind ≡ 2 → Cleared kind receiving_at receiving_size
    unfolding on_open on_clear
    clear_queue e = cleared (receiving_part_law r o) (record { queue = []; lost = false }) (no_queue _) kind (rw e refl)

    pub clear_periodics : kind ≡ 3 → Cleared kind periodics_at periodics_size
    unfolding on_open on_clear
    clear_periodics e = cleared (periodics_part r o) none_yet (no_periodics _) kind (rw e refl)

    pub clear_filters : kind ≡ 4 → Cleared kind filters_at mapped_size
    unfolding on_open on_clear
    clear_filters e = cleared (filters_part r o) none_yet (no_mapped _) kind (rw e refl)

    pub clear_unknown : (kind ≡ 1 → ⊥) → (kind ≡ 2 → ⊥) → (kind ≡ 3 → ⊥) → (kind ≡ 4 → ⊥) → gives 0x0F 0 [] r ≡ call_outcome rates t r (clear kind)
    unfolding on_open on_clear
    clear_unknown a b c d = stays r o rates t (clear kind) 0x0F 0 [] (rw (ne_eqb kind 1 a) (rw (ne_eqb kind 2 b) (rw (ne_eqb kind 3 c) (rw (ne_eqb kind 4 d) refl))))
