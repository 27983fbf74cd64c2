-- THE REGION AFTER A LOAD, part by part: filters, periodics, loopback, rate. Assumes nothing.
use Prim.Native.Nat.{ℕ, zero, suc, ◌≤◌}
use mathlib.Core.Path.{◌≡◌, refl, sym, ap, ap₂, subst, ◌∙◌}
use mathlib.Core.Bool.{Bool}
use mathlib.Core.Option.{some}
use mathlib.Core.List.{List, map}
use native.Mathlib.Omega.{arith}
use lib.Dec.{eqb}
use lib.ListN.{length, set, take, drop}
use borrow.Rule.Slice.PartMut.{put_mid, same_len_mid}
use Rattle.codec.specs.Word.{word}
use Rattle.codec.specs.Code.{word32}
use Rattle.number.specs.Laws.{Bytes}
use Rattle.number.specs.Reads.{number}
use Rattle.machine.specs.Filter.{Slots}
use Rattle.machine.specs.Store.{Setup, slots_in}
use Rattle.machine.specs.Channel.{Open, Periodic, opened, with_config, with_filters, with_sending, filter_in, periodic_in, body_in, store_in, starts_anew, loaded}
use Rattle.setups.specs.Saved.{Done}
use Rattle.setups.proofs.Reading.{Entire, whole_there}
use Rattle.layout.specs.Sizes.{number_size, rate_at, loopback_at, filters_at, mapped_size, periodics_at, periodics_size}
use Rattle.layout.specs.Memory.{mapped, periodics, region}
use Rattle.layout.specs.Promise.{Opened}
use Rattle.layout.proofs.Held.{config_flags, config_rate, config_make}
use Rattle.layout.proofs.Good.{Fine, put_config, put_filters, put_sending}
use Rattle.layout.proofs.Places.{fl, good}
use Rattle.layout.proofs.Region.{open_of, fine, mark_stored, rate_part, loopback_part, filters_part, periodics_part, opened_again, open_again}
use Rattle.store_filling.specs.Filling.{NumberThere, There, Gives}
use Rattle.store_filling.proofs.Walk.{slots_ok}
use Rattle.store_filling.proofs.TwoLists.{periodics_kept}
use Rattle.replacing.specs.Body.{BodyThere}
use Rattle.replacing.proofs.Body.{BodyRead, body_read}
use Rattle.replacing.proofs.Parts.{filters_ok}

-- the two ways to ask whether a mark is 1
one_either : (n : ℕ) → n ≤ 1 → eqb 1 n ≡ eqb n 1
one_either zero h = refl
one_either (suc zero) h = refl
one_either (suc (suc n)) h = absurd (omega arith)

-- a region that became that of a channel which a region can hold
module _ (r : List ℕ) (o : Open) (e : r ≡ region.put (opened o)) (t : Fine (opened o)) where
  pub again : Opened r
  again = subst Opened (sym e) (opened_again o t)

  holds : open_of r ≡ o
  holds = ap open_of e ∙ open_again o t

module _ (r : List ℕ) (f : Opened r) (s : List ℕ) (b : Bytes s) (rates : List ℕ) (d : Done rates (open_of r) s) (at : ℕ) (body : BodyThere s at) where
  abbrev o : Open
  o = open_of r

  abbrev t : Setup
  t = d.setup

  abbrev k : ℕ
  k = fl o

  entire : Entire (store_in rates) s t
  entire = whole_there (store_in rates) s t d.reads

  read : BodyRead k s at t entire.next
  read = body_read rates k s at t entire.next (ap (λ (j : ℕ). body_in rates j s at) (sym d.flags) ∙ body rates t entire.next entire.read)

  pub filters_there : There (λ j. slots_in (filter_in j)) s at
  filters_there = record { flags = k; what = t.filters; next = read.filters_end; read = read.filters }

  pub filters_long : length (take mapped_size (drop filters_at r)) ≡ mapped_size
  filters_long = (filters_part r f).long

  -- the filters
  abbrev o₁ : Open
  o₁ = record { config = o.config; filters = t.filters; sending = o.sending; receiving = o.receiving; last = o.last; link = o.link }

  fine₁ : Fine (opened o₁)
  unfolding with_filters
  fine₁ = put_filters o (good o (fine r f)) t.filters (filters_ok s b k at t.filters read.filters_end read.filters)

  module _ (a : ℕ) (ys : List ℕ) (g : Gives (λ j. slots_in (filter_in j)) s at a ys (λ j fs. (mapped j).put fs)) where
    abbrev r₁ : List ℕ
    r₁ = put_mid filters_at mapped_size r ys

    wrote₁ : (a ≡ read.filters_end) × (ys ≡ (mapped k).put t.filters)
    wrote₁ = g k t.filters read.filters_end read.filters

    is₁ : r₁ ≡ region.put (opened o₁)
    unfolding with_filters
    is₁ = (filters_part r f).becomes ys t.filters wrote₁.1

    opened₁ : Opened r₁
    opened₁ = again r₁ o₁ is₁ fine₁

    holds₁ : open_of r₁ ≡ o₁
    holds₁ = holds r₁ o₁ is₁ fine₁

    periodics_read : slots_in (periodic_in k) s a ≡ some (t.periodics, read.periodics_end)
    periodics_read = ap (slots_in (periodic_in k) s) wrote₁.0 ∙ read.periodics

    pub periodics_there : There (λ j. slots_in (periodic_in j)) s a
    periodics_there = record { flags = k; what = t.periodics; next = read.periodics_end; read = periodics_read }

    pub periodics_long : length (take periodics_size (drop periodics_at r₁)) ≡ periodics_size
    periodics_long = (periodics_part r₁ opened₁).long

    -- the periodics
    abbrev ps : Slots Periodic
    ps = map starts_anew t.periodics

    abbrev o₂ : Open
    o₂ =
        record {
          config = o.config;
          filters = t.filters;
          sending = record { periodics = ps; written = o.sending.written; flight = o.sending.flight };
          receiving = o.receiving;
          last = o.last;
          link = o.link;
        }

    fine₂ : Fine (opened o₂)
    unfolding with_sending
    fine₂ =
        let g₁ = good o₁ fine₁ in
        put_sending o₁ g₁ ps o.sending.written o.sending.flight (slots_ok periodic_in starts_anew periodics periodics_size periodics_kept s b k a t.periodics read.periodics_end periodics_read)
        g₁.written_ok g₁.flight_ok

    module _ (c : ℕ) (zs : List ℕ) (h : Gives (λ j. slots_in (periodic_in j)) s a c zs (λ j x. (periodics j).put (map starts_anew x))) where
      abbrev r₂ : List ℕ
      r₂ = put_mid periodics_at periodics_size r₁ zs

      wrote₂ : (c ≡ read.periodics_end) × (zs ≡ (periodics k).put ps)
      wrote₂ = h k t.periodics read.periodics_end periodics_read

      is₂ : r₂ ≡ region.put (opened o₂)
      unfolding with_sending
      is₂ =
          (periodics_part r₁ opened₁).becomes zs ps (wrote₂.1 ∙ ap (λ (x : Open). (periodics (fl x)).put ps) (sym holds₁))
          ∙ ap (λ (x : Open). region.put (with_sending x ps x.sending.written x.sending.flight)) holds₁

      pub opened₂ : Opened r₂
      opened₂ = again r₂ o₂ is₂ fine₂

      holds₂ : open_of r₂ ≡ o₂
      holds₂ = holds r₂ o₂ is₂ fine₂

      -- the configuration
      module _ (v w : ℕ) (nv : NumberThere s c v w) (l e : ℕ) (nl : NumberThere s w l e) where
        rate_is : (v ≡ t.rate) × (w ≡ read.rate_end)
        rate_is = nv t.rate read.rate_end (ap (number s) wrote₂.0 ∙ read.rate)

        loop_is : l ≡ read.loop
        loop_is = (nl read.loop entire.next (ap (number s) rate_is.1 ∙ read.loopback)).0

        pub loop_small : l ≤ 1
        loop_small = let h = read.small in let i = loop_is in omega arith

        mark_is : eqb 1 l ≡ t.loopback
        mark_is = one_either l loop_small ∙ ap (λ (x : ℕ). eqb x 1) loop_is ∙ read.mark

        abbrev r₃ : List ℕ
        r₃ = set r₂ loopback_at l

        abbrev o₃ : Open
        o₃ =
            record {
              config = record { flags = k; rate = o.config.rate; loopback = eqb 1 l };
              filters = t.filters;
              sending = record { periodics = ps; written = o.sending.written; flight = o.sending.flight };
              receiving = o.receiving;
              last = o.last;
              link = o.link;
            }

        fine₃ : Fine (opened o₃)
        unfolding with_config
        fine₃ =
            let c₀ = (good o (fine r f)).config_ok in
            put_config o₂ (good o₂ fine₂) o.config.rate (eqb 1 l) (config_make _ (config_flags o.config c₀) (config_rate o.config c₀))

        is₃ : r₃ ≡ region.put (opened o₃)
        unfolding with_config
        is₃ =
            mark_stored (loopback_part r₂ opened₂) (omega (arith, opened₂.long)) l loop_small
            ∙ ap (λ (x : Open). region.put (with_config x (record { flags = fl x; rate = x.config.rate; loopback = eqb 1 l }))) holds₂

        pub opened₃ : Opened r₃
        opened₃ = again r₃ o₃ is₃ fine₃

        pub all_replaced : (ws : List ℕ) → ws ≡ word v → put_mid rate_at number_size r₃ ws ≡ region.put (opened (loaded o t))
        unfolding with_config word32 loaded
        all_replaced ws y =
            (rate_part r₃ opened₃).becomes ws v y
            ∙ ap (λ (x : Open). region.put (with_config x (record { flags = fl x; rate = v; loopback = x.config.loopback }))) (holds r₃ o₃ is₃ fine₃)
            ∙ ap₂ (λ (x : ℕ) (m : Bool). region.put (with_config o₃ (record { flags = k; rate = x; loopback = m }))) rate_is.0 mark_is

        pub as_long_as : (ws : List ℕ) → ws ≡ word v → length (put_mid rate_at number_size r₃ ws) ≡ length r
        unfolding word
        as_long_as ws y = same_len_mid rate_at number_size r₃ ws (ap length y ∙ sym (rate_part r₃ opened₃).long) ∙ opened₃.long ∙ sym f.long
