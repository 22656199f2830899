-- What holds of every arm, and of the guard, whatever the mode bits.
use mathlib.Core.Path.{◌≡◌, refl}
use mathlib.Core.Bool.{Bool, true, false}
use mathlib.Core.List.{[]}
use Prim.Native.Nat.{ℕ, ◌-◌, ◌≤◌, ◌<◌}
use native.Mathlib.Omega.{arith}
use borrow.Author.Tests.{lt-ltb}
use Rattle.strip.specs.Format.{format_of}
use Rattle.strip.specs.Entry.{kind_of, cells_of, refs_of, body_of}
use Rattle.strip.specs.Shape.{cell_ok, names, refs_pass}
use Rattle.strip.proofs.Table.{body_number}
use Rattle.translation.specs.Insn.{Insn, bits, bit, simm20}
use Rattle.translation.specs.Code.{Code}
use Rattle.translation.specs.Helpers.{r, set, logical_not_if, predicate, p, setp, b2u, cbuf_at, cbuf_imm, src_b, src_bc, inot, ineg, carry_flag, signed_overflow, set_cc, set_cc_if, set_sum_cc, add_with_flags, carry_flag_sum, carry_one_sum, carry_sum, saturate_add, bool_op, less_than, less_than_equal, greater_than, greater_than_equal, int_cmp, cc_flags, cc_case, cc_test, shifted, shift_fill, shift_end, shift, lop3_row, lop3_rows, lop3, extract, field, half16, half_select, video_operand, int_source, clamp_high, saturate_by, saturate_int}
use Rattle.translation.specs.Arms.{mov, mov32i, sel, setp_both, set_truth, csetp, set_word, set_either, icompare, pcombine, prepared, iadd_words, iadd, iadd32i, iadd3_shift, iadd3_words, iadd3_fetch, iadd3, iscadd, xmad_shift, xmad_alter, xmad_merge, xmad_product, xmad_words, xmad_bc, xmad_fetch, xmad, minimum, maximum, imnmx, icmp_words, icmp_bc, icmp, lop_word, lop_test, lop_predicate, lop, lop32i, lop3_arm, shl, reverse_if, shr, use_field, field_at_b, bfe, bfi_words, bfi_bc, bfi, vmnmx_b, vmnmx_mixed, vmnmx_first, min_or_max, vmnmx_word, vmnmx_saturate, vmnmx_insert, vmnmx_merge, vmnmx_words, vmnmx, absolute, saturate_if, i2i, find_msb, flo_shift, flo, popc, note_unless, store_cell, r2p_turn, r2p_turns, r2p, load_cell, p2r_turn, p2r_turns, p2r, shf_amount, shf_select, shf_word, shf_words, shf, lea_b, lea_join, lea_word, lea, arm_of, truth_word, xmad_high, xmad_signed, vmnmx_imm, p2r_keep, lea_shift}
use Rattle.translation.proofs.Fits.{bound, room, marks}
use Rattle.translation.proofs.Typed.{kind, typed, closed}
use Rattle.translation.proofs.InRange.{either, in_range, bits-lt, simm20-lt, truth-word-lt, vmnmx-imm-lt, p2r-keep-lt, lea-shift-lt, r-range, set-range, predicate-range, setp-range, cbuf-range, half-range, video-range, source-range, saturate-range, r2p-range, p2r-range}

-- so many bytes, entries and use marks at most, references of the right kinds, closed code
pub record Sized (c : Code) (bytes entries uses : ℕ) : Type 0 where
  pub room : room c ≤ bytes
  pub bound : bound c ≤ entries
  pub marks : marks c ≤ uses
  pub typed : typed [] c ≡ true
  pub closed : closed 0 c ≡ true

pub arm-sized : (k : ℕ) (i : Insn) → Sized (arm_of k i) 245 59 1
unfolding mov mov32i sel setp_both set_truth csetp set_word set_either icompare pcombine prepared iadd_words iadd iadd32i iadd3_shift iadd3_words iadd3_fetch iadd3 iscadd xmad_shift xmad_alter xmad_merge xmad_product xmad_words xmad_bc xmad_fetch xmad minimum maximum imnmx icmp_words icmp_bc icmp lop_word lop_test lop_predicate lop lop32i lop3_arm shl reverse_if shr use_field field_at_b bfe bfi_words bfi_bc bfi vmnmx_b vmnmx_mixed vmnmx_first min_or_max vmnmx_word vmnmx_saturate vmnmx_insert vmnmx_merge vmnmx_words vmnmx absolute saturate_if i2i find_msb flo_shift flo popc note_unless store_cell r2p_turn r2p_turns r2p load_cell p2r_turn p2r_turns p2r shf_amount shf_select shf_word shf_words shf lea_b lea_join lea_word lea arm_of r set logical_not_if predicate p setp b2u cbuf_at cbuf_imm src_b src_bc inot ineg carry_flag signed_overflow set_cc set_cc_if set_sum_cc add_with_flags carry_flag_sum carry_one_sum carry_sum saturate_add bool_op less_than less_than_equal greater_than greater_than_equal int_cmp cc_flags cc_case cc_test shifted shift_fill shift_end shift lop3_row lop3_rows lop3 extract field half16 half_select video_operand int_source clamp_high saturate_by saturate_int kind typed closed format_of kind_of refs_of body_of names refs_pass body_number
arm-sized k i = record { room = omega arith; bound = omega arith; marks = omega arith; typed = refl; closed = refl }

pub arm-range : (k : ℕ) (i : Insn) → in_range (arm_of k i) ≡ true
unfolding mov mov32i sel setp_both set_truth csetp set_word set_either icompare pcombine prepared iadd_words iadd iadd32i iadd3_shift iadd3_words iadd3_fetch iadd3 iscadd xmad_shift xmad_alter xmad_merge xmad_product xmad_words xmad_bc xmad_fetch xmad minimum maximum imnmx icmp_words icmp_bc icmp lop_word lop_test lop_predicate lop lop32i lop3_arm shl reverse_if shr use_field field_at_b bfe bfi_words bfi_bc bfi vmnmx_b vmnmx_mixed vmnmx_first min_or_max vmnmx_word vmnmx_saturate vmnmx_insert vmnmx_merge vmnmx_words vmnmx absolute saturate_if i2i find_msb flo_shift flo popc note_unless r2p_turns r2p p2r_turns p2r shf_amount shf_select shf_word shf_words shf lea_b lea_join lea_word lea arm_of logical_not_if p b2u src_b src_bc inot ineg carry_flag signed_overflow set_cc set_cc_if set_sum_cc add_with_flags carry_flag_sum carry_one_sum carry_sum saturate_add bool_op less_than less_than_equal greater_than greater_than_equal int_cmp cc_flags cc_case cc_test shifted shift_fill shift_end shift lop3_row lop3_rows lop3 extract half_select in_range either format_of kind_of cell_ok cells_of
arm-range k i =
    rw (
      r-range (bits i 8 8) (bits-lt i 8 8),
      r-range (bits i 20 8) (bits-lt i 20 8),
      r-range (bits i 39 8) (bits-lt i 39 8),
      set-range (bits i 0 8) (bits-lt i 0 8),
      predicate-range (bits i 39 3) (bits-lt i 39 3),
      predicate-range (bits i 12 3) (bits-lt i 12 3),
      predicate-range (bits i 29 3) (bits-lt i 29 3),
      setp-range (bits i 3 3) (bits-lt i 3 3),
      setp-range (bits i 0 3) (bits-lt i 0 3),
      setp-range (bits i 48 3) (bits-lt i 48 3),
      cbuf-range (bits i 34 5) (bits i 20 14) (bits-lt i 34 5) (bits-lt i 20 14),
      lt-ltb (simm20 i) 4294967296 (simm20-lt i),
      lt-ltb (bits i 20 32) 4294967296 (bits-lt i 20 32),
      lt-ltb (truth_word i) 4294967296 (truth-word-lt i),
      lt-ltb (bits i 39 5) 4294967296 (omega (arith, bits-lt i 39 5)),
      lt-ltb (bits i 20 16) 4294967296 (omega (arith, bits-lt i 20 16)),
      lt-ltb (vmnmx_imm i) 4294967296 (vmnmx-imm-lt i),
      half-range (bit i 53) (bit i 48),
      half-range (xmad_high i) (xmad_signed i),
      half-range false false,
      half-range true false,
      video-range (bits i 36 3) (bit i 48) (bits-lt i 36 3),
      video-range (bits i 28 3) (bit i 49) (bits-lt i 28 3),
      source-range (bits i 10 2) (bit i 13) (bits i 41 2) (bits-lt i 41 2),
      source-range (bits i 8 2) (bit i 12) 0 (omega arith),
      saturate-range (bit i 13) (bit i 12) (bits i 8 2),
      r2p-range 0 (omega arith) i,
      r2p-range 1 (omega arith) i,
      r2p-range 2 (omega arith) i,
      r2p-range 3 (omega arith) i,
      r2p-range 4 (omega arith) i,
      r2p-range 5 (omega arith) i,
      r2p-range 6 (omega arith) i,
      p2r-range 0 (omega arith) i,
      p2r-range 1 (omega arith) i,
      p2r-range 2 (omega arith) i,
      p2r-range 3 (omega arith) i,
      p2r-range 4 (omega arith) i,
      p2r-range 5 (omega arith) i,
      p2r-range 6 (omega arith) i,
      lt-ltb (p2r_keep i) 4294967296 (p2r-keep-lt i),
      lt-ltb (lea_shift i) 4294967296 (omega (arith, lea-shift-lt i)),
      lt-ltb (32 - lea_shift i) 4294967296 (omega arith),
    )
    refl

-- the guard's predicate
pub guard-sized : (k : ℕ) (n : Bool) → Sized (p k n) 5 2 0
unfolding p predicate logical_not_if kind typed closed format_of kind_of refs_of body_of names refs_pass body_number
guard-sized k n = record { room = omega arith; bound = omega arith; marks = omega arith; typed = refl; closed = refl }

pub guard-kind : (k : ℕ) (n : Bool) → kind [] (p k n) ≡ 2
unfolding p predicate logical_not_if kind format_of kind_of
guard-kind k n = refl

pub guard-range : (k : ℕ) (n : Bool) → k < 8 → in_range (p k n) ≡ true
unfolding p logical_not_if in_range either format_of kind_of cell_ok cells_of
guard-range k n h = rw (predicate-range k h) refl
