-- What a load does to the bytes of a region is what the machine does to the channel. Assumes nothing.
use Prim.Native.Nat.{ℕ}
use mathlib.Core.Path.{◌≡◌, sym, ap, ◌∙◌}
use mathlib.Core.Bool.{Bool, true, false}
use mathlib.Core.List.{List, []}
use Rattle.codec.specs.Word.{word_at}
use Rattle.machine.specs.Store.{read_whole}
use Rattle.machine.specs.Channel.{opened, done_with, load_setup, on_open, on_raw_call, store_in, loaded}
use Rattle.setups.specs.Saved.{Done, takes_store}
use Rattle.setups.proofs.Calls.{done_loads, load_takes, takes_done}
use Rattle.layout.specs.Sizes.{flags_at}
use Rattle.layout.specs.Memory.{region}
use Rattle.layout.specs.Promise.{gives, Opened, call_outcome}
use Rattle.layout.proofs.Region.{open_of, stays, moves, word_of, flags_part}

module _ (r : List ℕ) (f : Opened r) (rates s : List ℕ) where
  -- the verdict that code found by the flags
  verdict_is : (n : ℕ) (b g : Bool) → n ≡ word_at flags_at r → b ≡ takes_store n (read_whole (store_in rates) s) → b ≡ g → takes_store (open_of r).config.flags (read_whole (store_in rates) s) ≡ g
  verdict_is n b g en e eg = ap (λ (k : ℕ). takes_store k (read_whole (store_in rates) s)) (sym (en ∙ word_of (flags_part r f))) ∙ sym e ∙ eg

  pub taken : (n : ℕ) (b : Bool) → n ≡ word_at flags_at r → b ≡ takes_store n (read_whole (store_in rates) s) → b ≡ true → Done rates (open_of r) s
  taken n b en e eg = takes_done rates (open_of r) s (verdict_is n b true en e eg)

  module _ (t : ℕ) where
    pub refused : (n : ℕ) (b : Bool) → n ≡ word_at flags_at r → b ≡ takes_store n (read_whole (store_in rates) s) → b ≡ false → gives 0x0A 0 [] r ≡ call_outcome rates t r (load_setup s)
    unfolding on_open on_raw_call
    refused n b en e eg = stays r f rates t (load_setup s) 0x0A 0 [] (load_takes rates (open_of r) s (verdict_is n b false en e eg))

    pub loads_all : (d : Done rates (open_of r) s) (r' : List ℕ) → r' ≡ region.put (opened (loaded (open_of r) d.setup)) → gives 0 0 [] r' ≡ call_outcome rates t r (load_setup s)
    unfolding on_open on_raw_call done_with
    loads_all d r' e = moves r f rates t (load_setup s) (opened (loaded (open_of r) d.setup)) 0 0 [] r' (done_loads rates (open_of r) s d) e
