-- For proofs alone: the rules by which a function over a lent slice of structs can be proved by hand.
-- The toolchain derives a function's proof by itself, by its borrow checker's rules (the modules `borrow.*`), at slices of structs too: no function of this repository is proved by hand over these rules.
-- These are the same rules, with all that antt finds left implicit, so that a derivation can be written with one line for each statement of the function's MIR:
--     Spot             where a derivation stands: a model of the logic, its tables, and the locals' places
--     D, S, G          a derivation of code, of a statement that falls through, and of a ghost step, each with the transformer that it has
--     Op, Rd, RdAt, Rm, Same, Vl, Vc, Args     operands, readings of rows, rows that can be made room, values, arguments, with what has to be known of each
--     _▹_ _▸_ join     a statement, a ghost step, and code that may leave, before code. `at Γ` and `join Γ` write the context out: without it antt compares what it computed step by step, which grows threefold a step
--     Contract, Derived, Laid, proves     a function's contract; its derivation; that its transformer is met, which is what a proof is about; and both together prove the function's own statement, the one that the toolchain asks for
-- Why it can be trusted: nothing here is assumed. Each definition is a term that antt checks, made of the toolchain's rules, and a proof that uses them ends in the statement that the toolchain made of the function. A mistake here makes a proof fail; it cannot make a false one pass.
use Rattle.std.specs.Prelude.{zero, suc, ◌++◌, ◌^◌, ◌*◌, Bool, T, ltb}
pub use Rattle.std.specs.Prelude.{ℕ, ◌+◌, ◌-◌, ◌≤◌, ◌<◌, ◌≡◌, refl, List, [], ◌∷◌, length, set, get_or}
pub use Rattle.std.proofs.Common.{arith, add-one, sym, subst, ap, ◌∙◌, length-set, ltb-true, ltb-false, leb-true, leb-false, eqb-true, lit<}
use Rattle.std.proofs.Math.Option.{some, none-ne-some, some-injective}
use seplogic.Ra.Ura.{Ura}
use Rattle.std.proofs.Math.Dec.{T¹}
use mir.Syntax.{Fn, Local, local, Home, Callee, Ty, Width, Body, Op2, seq, assign, place, rv_opd, op2, skip, exit, return, block, loop, cond, copy, call, field, deref, addr_of, aggregate, repeat, int, ty_ref, erased, named, mut, imm}
pub use mir.Syntax.{ty_array, ty_unit, ty_bool, ty_int, ty_ptr, w8, w32, w64, lt, add, mul, eq, le, offset, unsigned}
use mir.Val.{Val, vint, vbool, has_ty, bits, op2_val}
use mir.Raw.{raw as raw_ty}
use prog.Wp.{Env, Tables, WpFn, Closed, spot_of}
use prog.Routine.{Env as RoutineEnv, Routine}
use base.Logic.{ent, emp, via}
use contract.Running.{Running, tables}
unfoldable pub use contract.Running.{tables_of}
pub use Rattle.std.proofs.lemmas.Bool.{eqb-false}
pub use borrow.Kind.MutSlice.{fix_len}
use prog.Model.{Model}
use denote.Triple.Clauses.{Clauses, AtExit, at_exit as seen}
use borrow.Fn.Claims.{AllOf}
use borrow.Fn.Learn.{no_pin, no_pins, no_own, no_owns}
use borrow.Fn.Read.{Read, all∗, no_know}
use borrow.Fn.Run.{Over}
use borrow.Fn.World.{Pr, ArgsD, ResD, In as InW}
pub use borrow.Fn.World.{World}
use borrow.Fn.Written
use prog.Memory.{field_at, field_of, size, align, up}
use types.Logic.{Logic}
use contract.Lifetimes.{Within}
pub use contract.Lifetimes.{Lfts, Shares}
use denote.RattleType.{RattleType, RowLaws, mirs}
use denote.MutBor.{MutBor, as_bor}
use denote.Memory.{pointee, lone, mem}
use Rattle.std.specs.Borrow.{Bor, Array}
pub use denote.Slice.{slice_ty}
use denote.Exit.{yes}
use denote.Struct.Declared.{Declared, row, fields}
use denote.Struct.Field.{Field, rows}
use denote.Struct.At.{FieldAt, law_at}
use denote.Struct.Loose.{loosens}
use denote.Struct.Struct.{Plains, to_tys}
use denote.Struct.Laws as LL
use denote.Enum.Declared as ED
use denote.Enum.Enum.{Few, Plainss}
use denote.Enum.Laws as EL
use denote.Triple.Statement.{Triple}
pub use borrow.Table.Row.{Cx, Row, Life, lease, off, s_ptr, s_bool, s_unit}
pub use borrow.Table.Row.{alive}
use borrow.Table.Row.{Entry, Sc, ty_s, val_s, get_row, get, out, rd, get_life, set_life, slots≔, dead, Fresh, IsTok}
use borrow.Table.Rows.{whole, sslice}
pub use borrow.Table.Rows.{sc_here, any_gone}
use borrow.Table.OneValue.{One}
use borrow.Table.Reads.{ReadsAs, ReadsAt, ToRoom, As, as_is, room_gone, end_of, ptr_val, ptr_valᵐ}
use borrow.Table.Own.{Told-none}
use borrow.Table.Copies.{c_struct, c_rf, halved, parts_laws}
use borrow.Table.Elements.{at as at_e, at_mul, at_byte}
use borrow.Kind.ShrRef.{Spares}
use borrow.Table.Typed
use borrow.Table.Typed.{Outs, TF, Tf, Mo, Typed, Stmt, Ghost, the, Leaves, exit_at, at_next, at_exit, at_ret, with_next, want_next, in_block, in_block₀, in_loop₀, LoopBy, both, pass, ent₁, ent₂, tab₂, holds, holds_i}
use borrow.Rule.Scalar
use borrow.Rule.Scalar.{Oper, o_at, o_fld, o_int, o_unit, op_o, val_o, HasO, After, Φuse, Φop2, Φcond, n_room}
use borrow.Rule.Lifetime
use borrow.Rule.Lifetime.{Begun, Ended, Forgot}
use borrow.Rule.Local
use borrow.Rule.LocalCopy
use borrow.Rule.LocalCopy.{Φval_copy}
use borrow.Rule.DerefMove.{Learns-nothing}
use borrow.Rule.Yields
use borrow.Rule.Yields.{YieldsAt}
use borrow.Rule.Slice.Shared
use borrow.Rule.Slice.Shared.{slice_v, slice_vᵐ, len_v, len_vᵐ, by_size, by_byte}
use borrow.Rule.Slice.Mut
use borrow.Rule.Slice.Mut.{mslice, msleft}
use borrow.Rule.Slice.Move
use borrow.Rule.Slice.Move.{AfterSl, AfterShs, Φsl_set_from, Φshs_copy_out}
use borrow.Rule.Slice.Relend
use borrow.Rule.Slice.Relend.{AfterLend, AfterAgg, AfterBack, mslice_owed, msptr, ssptr, as_mut, as_shr, Φsl_relend, Φsl_aggregate, Φback_sl}
use borrow.Rule.Slice.Reshare
use borrow.Rule.Slice.Reshare.{mslice_owed_s, AfterBackShr, Φsl_shared, Φback_sl_shr}
use borrow.Rule.Slice.PartAt
use borrow.Rule.Slice.PartAt.{AfterPart, AfterPartS, Φshr_part, Φshs_part_same}
use borrow.Rule.SharedLend.{each_copy}
use borrow.Rule.Token.Call.{HasH}
use borrow.Rule.Token.Open.{Takes-whole}
use borrow.Struct.Reads.{field_at_v, reads_field_at, reads_struct}
use borrow.Rule.Array.Rows.{arr_f, arr_owed, arr_owed_p, arr_shr}
use borrow.Rule.Array.Share as ArrayS
use borrow.Rule.Array.Borrow as ArrayB
use borrow.Rule.Local.{AfterBack as AfterBackL, AfterOver}
use borrow.Rule.Array.Repeat
use borrow.Rule.Array.Repeat.{n_repeat}
use borrow.Rule.Array.Gives
use borrow.Rule.Array.Init.{room_arr}
use borrow.Rule.AtSlots
use denote.Slice.{Room}
use borrow.Fn.Kind.{ParamKind, ResultKind}
use borrow.Fn.Kinds.{ended_of, stays, In, Out, Dens, GoodsP, DestOk, ty_rc, ty_r, p_num, p_s_num}
use borrow.Fn.Args.{ArgsT, Has, outs_m, ops_v, v_at, v_lit}
use borrow.Fn.Call
use borrow.Fn.Call.{call_b, Γafter}
use borrow.Fn.Plain.{Known, plain_of, t_call_plain, t_fn_plain}
use borrow.Fn.Function.{S as Sig, Γin, Δret, init, fn_of}
use borrow.Fn.Any.{want_q}
use borrow.Fn.Enter.{tys_p}
use borrow.Fn.Frame.{EnvOf}
use borrow.Kind.MutSlice.{p_mut_s}
use borrow.Kind.ShrSlice.{p_shr_s, Spares-sslice}
use borrow.Table.Row.{lft, s_int}
use borrow.Table.Referent.{rt_f, f_int, laws_f}
use borrow.Table.Owned.{ShrSlice}
use borrow.Kind.Value.{Valued, ValuedLaws, p_val, r_val}
pub use borrow.Kind.Value.{ty_v}

pub record Spot : Type 2 where
  pub M : Type 1
  pub 𝓤 : Ura M
  pub 𝓛 : Logic 𝓤
  pub 𝓣 : Tables 𝓤 𝓛.H
  pub E : Env 𝓤 𝓛.H

-- the MIR type of a local
abbrev τ· : Spot → ℕ → Ty
τ· m i = (spot_of m.𝓤 m.𝓛.H m.E i).0

pub record D (m : Spot) (Γ : Cx) (b : Body) (Δ : Outs) : Type 2 where
  pub Φ : TF Γ Δ
  pub go : Typed m.𝓛 m.𝓣 m.E Γ b Δ Φ

pub record S (m : Spot) (Γ : Cx) (b : Body) (Γ' : Cx) : Type 2 where
  pub φ : Tf Γ Γ'
  pub go : Stmt m.𝓛 m.𝓣 m.E Γ b Γ' φ

pub record G (m : Spot) (Γ Γ' : Cx) : Type 2 where
  pub φ : Tf Γ Γ'
  pub go : Ghost m.𝓛 m.E Γ Γ' φ

pub record Op (m : Spot) (L : List Entry) : Type 1 where
  pub op : Oper L
  pub has : HasO m.𝓛 m.E L op

pub record Rd (m : Spot) (r : Row) (τ : Ty) (f : r.Mod → Val) : Type 1 where
  pub go : ReadsAs m.𝓛 r τ f

pub record RdAt (m : Spot) (r : Row) (τ : Ty) (d : ℕ) (f : r.Mod → Val) : Type 1 where
  pub go : ReadsAt m.𝓛 r τ d f

pub record Rm (m : Spot) (r : Row) (τ : Ty) : Type 1 where
  pub go : ToRoom m.𝓛 r τ

pub record Same (m : Spot) (r r' : Row) (h : r.Mod → r'.Mod) : Type 1 where
  pub go : As m.𝓛 r r' h

-- ---- a declared struct that is Copy, with its laws
pub record Struct : Type 2 where
  pub type : Declared
  pub laws : LL.Laws type
  pub copy : LL.Copyables type.parts
  pub plain : Plains (fields type)

abbrev pub R· : Struct → RattleType
R· s = row s.type

-- the laws of what a `&` to such a struct holds, which each loan of it as `&` asks
pub shared_laws : (s : Struct) → RowLaws (R· s)
shared_laws s = parts_laws s.type (LL.copy_row_laws s.type.parts s.copy)

-- each field of such a struct has one machine value, and its own MIR type is the one that stands in the struct's
pub one_at : (Fs : List Field) → LL.Copyables Fs → (k : ℕ) → One (FieldAt Fs k).row
one_at [] cs k = refl
one_at (F ∷ Fs) cs zero = cs.0.alone
one_at (F ∷ Fs) cs (suc k) = one_at Fs cs.1 k

pub type_at : (Fs : List Field) → LL.Copyables Fs → (k o : ℕ) {τ : Ty} {d : ℕ} → field_at o (to_tys (mirs (rows Fs))) k ≡ some (τ, d) → lone (FieldAt Fs k).row.mir ≡ τ
type_at [] cs k o e = absurd (none-ne-some _ e)
type_at (F ∷ Fs) cs zero o {τ} {d} e = ap (λ (p : Ty × ℕ). p.0) (some-injective _ _ (subst (λ (ms : List Ty). field_at o (to_tys (ms ++ mirs (rows Fs))) zero ≡ some (τ, d)) cs.0.alone e))
type_at (F ∷ Fs) cs (suc k) o {τ} {d} e = type_at Fs cs.1 k (up (align (lone F.row.mir)) o + size (lone F.row.mir)) (subst (λ (ms : List Ty). field_at o (to_tys (ms ++ mirs (rows Fs))) (suc k) ≡ some (τ, d)) cs.0.alone e)

abbrev pub valued : Struct → Valued
valued s = record {
  ty = R· s;
  one = refl;
  val = LL.val s.type s.laws;
  tells = LL.tells s.type s.laws;
  still = LL.still s.type s.copy yes;
  row = whole (R· s);
  rd = λ x. x;
  mk = λ x. x;
}

abbrev pub valued_laws : (s : Struct) (M : Type 1) (𝓤 : Ura M) (𝓛 : Logic 𝓤) → ValuedLaws 𝓛 (valued s)
valued_laws s M 𝓤 𝓛 = record {
  copies = LL.copy s.type s.copy 𝓛;
  lawful = LL.lawful s.type s.laws 𝓛;
  makes = LL.makes s.type s.plain 𝓛;
  in_mem = Local.mem_whole 𝓛 (R· s);
  of_mem = Local.whole_mem 𝓛 (R· s);
}

abbrev pub pS : {n : ℕ} → Struct → ParamKind n
pS s = p_val (valued s) (valued_laws s)

abbrev pub rS : {n : ℕ} → Struct → ResultKind n
rS s = r_val (valued s) (valued_laws s)

-- ---- a declared enum that is Copy, with its laws: as a result, and as an argument
pub record Choice : Type 2 where
  pub type : ED.Declared
  pub laws : EL.Laws type
  pub copy : EL.Copyabless type.parts
  pub plain : Plainss (ED.variants type)
  pub few : Few (ED.shape type)

abbrev pub chosen : Choice → Valued
chosen e = record {
  ty = ED.row e.type;
  one = refl;
  val = EL.val e.type e.laws;
  tells = EL.tells e.type e.laws;
  still = EL.still e.type e.copy yes;
  row = whole (ED.row e.type);
  rd = λ x. x;
  mk = λ x. x;
}

abbrev pub chosen_laws : (e : Choice) (M : Type 1) (𝓤 : Ura M) (𝓛 : Logic 𝓤) → ValuedLaws 𝓛 (chosen e)
chosen_laws e M 𝓤 𝓛 = record {
  copies = EL.copy e.type e.copy 𝓛;
  lawful = EL.lawful e.type e.laws 𝓛 e.few;
  makes = EL.makes e.type e.plain 𝓛;
  in_mem = Local.mem_whole 𝓛 (ED.row e.type);
  of_mem = Local.whole_mem 𝓛 (ED.row e.type);
}

abbrev pub pE : {n : ℕ} → Choice → ParamKind n
pE e = p_val (chosen e) (chosen_laws e)

abbrev pub rE : {n : ℕ} → Choice → ResultKind n
rE e = r_val (chosen e) (chosen_laws e)

pub record Vl (m : Spot) (s : Struct) (r : Row) (h : r.Mod → (R· s).Denot) : Type 1 where
  pub go : YieldsAt m.𝓛 (λ ρ. Unit {0}) (ty_v (valued s)) 0 r r (R· s) h (λ x. x)

pub record Vc (m : Spot) (e : Choice) (r : Row) (h : r.Mod → (chosen e).ty.Denot) : Type 1 where
  pub go : YieldsAt m.𝓛 (λ ρ. Unit {0}) (ty_v (chosen e)) 0 r r (chosen e).ty h (λ x. x)

abbrev pub bytes : RattleType
bytes = rt_f (f_int w8)

-- the MIR types of a slice's pointer: of a `&mut` parameter's at the lifetime j, of a `&mut` that is lent on, and of a `&` parameter's
abbrev pub nT : RattleType → ℕ → Ty
nT R j = ty_ref (named j) mut (pointee R.written)

abbrev pub eT : RattleType → Ty
eT R = ty_ref erased mut (pointee R.written)

abbrev pub sT : RattleType → ℕ → Ty
sT R j = ty_ref (named j) imm (pointee R.written)

-- of a part of bytes
abbrev pub iT : Ty
iT = ty_ref erased imm (pointee bytes.written)

-- of a `&mut` to an array of n
abbrev pub aT : RattleType → ℕ → Ty
aT R n = ty_ref erased mut (ty_array (pointee R.written) n)

-- of a `&` to an array of n, and of the `&` slice that is made of it
abbrev pub vT : RattleType → ℕ → Ty
vT R n = ty_ref erased imm (ty_array (pointee R.written) n)

abbrev pub wT : RattleType → Ty
wT R = ty_ref erased imm (pointee R.written)

-- a context, of the locals' rows and the slots
abbrev numbered : ℕ → List Row → List Entry
numbered n [] = []
numbered n (r ∷ rs) = (n, r) ∷ numbered (suc n) rs

abbrev pub cx : List Row → List Life → Cx
cx rs ls = record { locals = numbered 0 rs; slots = ls }

-- rows: a number, a truth value, a struct, a slice parameter at the lifetime α; and what is left of each
abbrev pub i64 : Sc
i64 = s_int w64

abbrev pub i32 : Sc
i32 = s_int w32

-- two numbers
abbrev pub pair : RattleType
pair = Array (rt_f (f_int w64)) 2

abbrev pub here : Struct → Row
here s = whole (R· s)

abbrev pub lost : Struct → Row
lost s = any_gone (ty_v (valued s))

abbrev pub made : Choice → Row
made e = whole (chosen e).ty

abbrev pub unmade : Choice → Row
unmade e = any_gone (ty_v (chosen e))

abbrev pub shr : RattleType → ℕ → Row
shr R α = sslice R (sT R α) α

abbrev pub muts : RattleType → ℕ → Row
muts R α = mslice R (nT R α) α

-- a `&mut` slice that is lent on from the slot α to the slot β, what is lent, and what is left of that after the call; a `&mut` slice of bytes that is lent as `&`, and a part of it
abbrev pub owing : RattleType → ℕ → ℕ → Life → Row
owing R α β l = mslice_owed R (nT R α) α β l

abbrev pub leased : RattleType → ℕ → Row
leased R β = mslice R (eT R) β

abbrev pub spent : RattleType → Row
spent R = msleft R (eT R)

abbrev pub sharing : ℕ → ℕ → Life → Row
sharing α β l = mslice_owed_s bytes (nT bytes α) α β l

abbrev pub shared : ℕ → Row
shared β = sslice bytes iT β

-- a local array of which the first entries are lent as `&mut`, one that is lent as `&`, and the `&` slice of it
abbrev pub first_owed : RattleType → ℕ → ℕ → Row
first_owed R n β = arr_owed_p R n β

abbrev pub viewed : RattleType → ℕ → ℕ → Row
viewed R n β = arr_shr R n β

abbrev pub view : RattleType → ℕ → Row
view R β = sslice R (wT R) β

abbrev pub slots₂ : Lfts 2 → Shares 2 → List Life → List Life
slots₂ κs qs ls = lease κs.0 qs.0 ∷ lease κs.1.0 qs.1.0 ∷ ls

abbrev pub slots₃ : Lfts 3 → Shares 3 → List Life → List Life
slots₃ κs qs ls = lease κs.0 qs.0 ∷ lease κs.1.0 qs.1.0 ∷ lease κs.1.1.0 qs.1.1.0 ∷ ls

-- ---- rows: room, and readings
module _ {m : Spot} where
  abbrev pub gone : {τ : Ty} → Rm m (any_gone τ) τ
  gone {τ} = record { go = room_gone m.𝓛 τ }

  abbrev pub over : (σ : Sc) → Rm m (sc_here σ) (ty_s σ)
  over σ = record { go = Scalar.room_Sc m.𝓛 σ }

  abbrev pub struct : (s : Struct) {τ : Ty} → raw_ty (lone (R· s).mir) ≡ raw_ty τ → Rm m (whole (R· s)) τ
  struct s {τ} e = record { go = Local.room_whole m.𝓛 (R· s) τ e }

  abbrev pub choice : (e : Choice) {τ : Ty} → raw_ty (lone (chosen e).ty.mir) ≡ raw_ty τ → Rm m (whole (chosen e).ty) τ
  choice e {τ} q = record { go = Local.room_whole m.𝓛 (chosen e).ty τ q }

  abbrev pub unshared : (β : ℕ) → Rm m (sslice bytes iT β) (slice_ty iT)
  unshared β = record { go = Shared.room_sslice m.𝓛 bytes iT β }

  abbrev pub unviewed : (R : RattleType) (β : ℕ) → Rm m (sslice R (wT R) β) (slice_ty (wT R))
  unviewed R β = record { go = Shared.room_sslice m.𝓛 R (wT R) β }

  abbrev pub sc : (σ : Sc) → Rd m (sc_here σ) (ty_s σ) (val_s σ)
  sc σ = record { go = Scalar.reads_Sc m.𝓛 σ }

  abbrev pub part : (s : Struct) (k : ℕ) {τ : Ty} {d : ℕ} → field_at zero (to_tys (mirs (fields s.type))) k ≡ some (τ, d) → RdAt m (whole (R· s)) τ (zero + d) (field_at_v s.type k (law_at s.type.parts s.laws k))
  part s k {τ} {d} e = record {
    go = subst (λ (σ : Ty). ReadsAt m.𝓛 (whole (R· s)) σ (zero + d) (field_at_v s.type k (law_at s.type.parts s.laws k))) (type_at s.type.parts s.copy k zero e)
        (reads_field_at m.𝓛 s.type (loosens s.type.parts s.laws) k (law_at s.type.parts s.laws k) d (one_at s.type.parts s.copy k)
        (subst (λ (σ : Ty). field_at zero (to_tys (mirs (fields s.type))) k ≡ some (σ, d)) (sym (type_at s.type.parts s.copy k zero e)) e));
  }

  abbrev pub same : {r : Row} → Same m r r (λ x. x)
  same {r} = record { go = as_is m.𝓛 r }

  abbrev pub held : {s : Struct} → Vl m s (whole (R· s)) (λ x. x)
  held {s} = record { go = Yields.Yields-copy m.𝓛 (λ ρ. Unit {0}) (R· s) refl (LL.copy s.type s.copy m.𝓛) (whole (R· s)) (λ x. x) (λ x. x) (λ ρ told. Local.mem_whole m.𝓛 (R· s) ρ) (λ ρ told. Local.whole_mem m.𝓛 (R· s) ρ) }

  abbrev pub chosen_held : {e : Choice} → Vc m e (whole (chosen e).ty) (λ x. x)
  chosen_held {e} = record { go = Yields.Yields-copy m.𝓛 (λ ρ. Unit {0}) (chosen e).ty refl (EL.copy e.type e.copy m.𝓛) (whole (chosen e).ty) (λ x. x) (λ x. x) (λ ρ told. Local.mem_whole m.𝓛 (chosen e).ty ρ) (λ ρ told. Local.whole_mem m.𝓛 (chosen e).ty ρ) }

  abbrev pub read_whole : (s : Struct) → Rd m (whole (R· s)) (ty_v (valued s)) (LL.val s.type s.laws)
  read_whole s = record { go = reads_struct m.𝓛 s.type s.laws }

  abbrev pub as_array : (s : Struct) (n : ℕ) → Same m (whole (Array (R· s) n)) (arr_f (R· s) n 0) (λ x. x)
  as_array s n = record { go = Repeat.whole_arr m.𝓛 (R· s) n tt }

  abbrev pub array : (s : Struct) (n : ℕ) → n + 0 ≡ n → Rm m (arr_f (R· s) n 0) (ty_array (ty_v (valued s)) n)
  array s n e = record { go = room_arr m.𝓛 (R· s) n 0 n e }

  module _ (R : RattleType) where
    -- field 0 and field 1 of a slice: its pointer and its count
    abbrev pub ptr : (α : ℕ) → RdAt m (mslice R (nT R α) α) (nT R α) 0 ptr_valᵐ
    ptr α = record { go = Mut.reads_mslice_ptr m.𝓛 R (nT R α) α 0 refl }

    abbrev pub len : (α : ℕ) → RdAt m (mslice R (nT R α) α) (ty_int w64) 8 len_vᵐ
    len α = record { go = Mut.reads_mslice_len m.𝓛 R (nT R α) α 8 refl }

    abbrev pub owed : (α β : ℕ) (l : Life) → RdAt m (mslice_owed R (nT R α) α β l) (ty_int w64) 8 (λ x. len_vᵐ x.0)
    owed α β l = record { go = Relend.reads_owed_len m.𝓛 R (nT R α) α β l 8 refl }

    abbrev pub sptr : (α : ℕ) → RdAt m (sslice R (sT R α) α) (sT R α) 0 ptr_val
    sptr α = record { go = Shared.reads_sslice_ptr m.𝓛 R (sT R α) α 0 refl }

    abbrev pub slen : (α : ℕ) → RdAt m (sslice R (sT R α) α) (ty_int w64) 8 len_v
    slen α = record { go = Shared.reads_sslice_len m.𝓛 R (sT R α) α 8 refl }

-- a slice as an argument: a `&mut` at the slot β, and a `&` at the slot β of the caller's lifetime α, with the laws of what a `&` to its elements holds
pub record Lent (m : Spot) (R : RattleType) (β : ℕ) (r : Row) (h : r.Mod → MutBor (List R.Denot)) : Type 1 where
  pub own : As m.𝓛 r (mslice R (eT R) β) h
  pub rd : ReadsAs m.𝓛 r (slice_ty (eT R)) (λ x. slice_vᵐ (h x))

pub record Lend (m : Spot) (R : RattleType) (β α : ℕ) (r : Row) (h : r.Mod → Bor (List R.Denot)) : Type 2 where
  pub laws : RowLaws R
  pub own : Spares m.𝓛 r (λ ρ x. (ShrSlice erased (lft ρ β) R).own_val (h x))
  pub rd : ReadsAs m.𝓛 r (slice_ty (sT R α)) (λ x. slice_v (h x))

pub record Lend' (m : Spot) (β : ℕ) (r : Row) (h : r.Mod → Bor (List ℕ)) : Type 1 where
  pub own : Spares m.𝓛 r (λ ρ x. (ShrSlice erased (lft ρ β) bytes).own_val (h x))
  pub rd : ReadsAs m.𝓛 r (slice_ty iT) (λ x. slice_v (h x))

pub record Lend'' (m : Spot) (R : RattleType) (β : ℕ) (r : Row) (h : r.Mod → Bor (List R.Denot)) : Type 2 where
  pub laws : RowLaws R
  pub own : Spares m.𝓛 r (λ ρ x. (ShrSlice erased (lft ρ β) R).own_val (h x))
  pub rd : ReadsAs m.𝓛 r (slice_ty (wT R)) (λ x. slice_v (h x))

module _ {m : Spot} where
  abbrev pub view_lend : {R : RattleType} {β : ℕ} → RowLaws R → Lend'' m R β (sslice R (wT R) β) (λ x. x)
  view_lend {R} {β} lw = record { laws = lw; own = Spares-sslice m.𝓛 R lw (wT R) β; rd = Shared.reads_sslice m.𝓛 R (wT R) β }

  abbrev pub part_lend : {β : ℕ} → Lend' m β (sslice bytes iT β) (λ x. x)
  part_lend {β} = record { own = Spares-sslice m.𝓛 bytes (laws_f (f_int w8)) iT β; rd = Shared.reads_sslice m.𝓛 bytes iT β }

  abbrev pub lent : {R : RattleType} {β : ℕ} → Lent m R β (mslice R (eT R) β) (λ x. x)
  lent {R} {β} = record { own = as_is m.𝓛 (mslice R (eT R) β); rd = Mut.reads_mslice m.𝓛 R (eT R) β }

  abbrev pub lend : {R : RattleType} {α : ℕ} → RowLaws R → Lend m R α α (sslice R (sT R α) α) (λ x. x)
  lend {R} {α} lw = record { laws = lw; own = Spares-sslice m.𝓛 R lw (sT R α) α; rd = Shared.reads_sslice m.𝓛 R (sT R α) α }

pub sized : (n k : ℕ) → n ≡ k → (i o : ℕ) → at_e o n i ≡ by_size k i o
sized n k e i o = at_mul o n i ∙ ap (λ (j : ℕ). i * j + o) e

-- ---- operands
module _ {m : Spot} {L : List Entry} where
  abbrev pub num : (i : ℕ) {τ : Ty} {f : (get_row i L).1.Mod → Val} → Rd m (get_row i L).1 τ f → τ· m (get_row i L).0 ≡ τ → Op m L
  num i {τ} {f} r e = record { op = o_at i τ f; has = (r.go, e) }

  abbrev pub fld : (i k : ℕ) {τ : Ty} {d : ℕ} {f : (get_row i L).1.Mod → Val} → RdAt m (get_row i L).1 τ d f → end_of (τ· m (get_row i L).0) zero (field k ∷ []) ≡ some (τ, d) → Op m L
  fld i k {τ} {d} {f} r e = record { op = o_fld i (field k ∷ []) τ d f; has = (r.go, e) }

  abbrev pub lit : (w : Width) (k : ℕ) → T¹ (ltb k (2 ^ bits w)) → Op m L
  lit w k h = record { op = o_int w k; has = h }

  abbrev pub unit : Op m L
  unit = record { op = o_unit; has = tt }

-- ---- arguments
pub record Args (m : Spot) (n : ℕ) (βs : List ℕ) (ps : List (ParamKind n)) (L : List Entry) : Type 2 where
  pub ar : ArgsT ps L
  pub has : Has m.𝓛 m.E n βs (λ pos β. β) ps L ar

module _ {m : Spot} {n : ℕ} {βs : List ℕ} {L : List Entry} where
  abbrev pub none : Args m n βs [] L
  none = record { ar = tt; has = tt }

  module _ {ps : List (ParamKind n)} where
    abbrev pub by_num : (w : Width) (i : ℕ) {f : (get_row i L).1.Mod → ℕ} → Rd m (get_row i L).1 (ty_int w) (λ x. vint w (f x)) → τ· m (get_row i L).0 ≡ ty_int w → Args m n βs ps L → Args m n βs (p_num w ∷ ps) L
    by_num w i {f} r e a = record { ar = (v_at i f, a.ar); has = ((r.go, e), a.has) }

    abbrev pub by_snum : (w : Width) (i : ℕ) {f : (get_row i L).1.Mod → ℕ} → Rd m (get_row i L).1 (ty_int w) (λ x. vint w (f x)) → τ· m (get_row i L).0 ≡ ty_int w → Args m n βs ps L → Args m n βs (p_s_num w ∷ ps) L
    by_snum w i {f} r e a = record { ar = (v_at i f, a.ar); has = ((r.go, e), a.has) }

    abbrev pub by_lit : (w : Width) (k : ℕ) → T¹ (ltb k (2 ^ bits w)) → Args m n βs ps L → Args m n βs (p_num w ∷ ps) L
    by_lit w k h a = record { ar = (v_lit k, a.ar); has = (h, a.has) }

    abbrev pub by_val : (s : Struct) (i : ℕ) {h : (get_row i L).1.Mod → (R· s).Denot} → Vl m s (get_row i L).1 h → end_of (τ· m (get_row i L).0) zero [] ≡ some (ty_v (valued s), 0) → Args m n βs ps L → Args m n βs (pS s ∷ ps) L
    by_val s i {h} r e a = record { ar = (record { pos = i; st = []; d = 0; at = h }, a.ar); has = ((r.go, e), a.has) }

    abbrev pub by_choice : (s : Choice) (i : ℕ) {h : (get_row i L).1.Mod → (chosen s).ty.Denot} → Vc m s (get_row i L).1 h → end_of (τ· m (get_row i L).0) zero [] ≡ some (ty_v (chosen s), 0) → Args m n βs ps L → Args m n βs (pE s ∷ ps) L
    by_choice s i {h} r e a = record { ar = (record { pos = i; st = []; d = 0; at = h }, a.ar); has = ((r.go, e), a.has) }

    -- a part of bytes that was lent for this call, at the slot β
    abbrev pub by_part : (j : ℕ) (ok : Within n j) (i : ℕ) {h : (get_row i L).1.Mod → Bor (List ℕ)} → Lend' m (rd 0 j βs) (get_row i L).1 h → τ· m (get_row i L).0 ≡ slice_ty iT → Args m n βs ps L → Args m n βs (p_shr_s bytes j ok ∷ ps) L
    by_part j ok i {h} r e a = record { ar = (record { pos = i; ty = iT; ref = h }, a.ar); has = (laws_f (f_int w8), r.own, r.rd, e, a.has) }

    -- the `&` slice of a local array, lent for this call at the slot β
    abbrev pub by_view : (R : RattleType) (j : ℕ) (ok : Within n j) (i : ℕ) {h : (get_row i L).1.Mod → Bor (List R.Denot)} → Lend'' m R (rd 0 j βs) (get_row i L).1 h → τ· m (get_row i L).0 ≡ slice_ty (wT R) → Args m n βs ps L → Args m n βs (p_shr_s R j ok ∷ ps) L
    by_view R j ok i {h} r e a = record { ar = (record { pos = i; ty = wT R; ref = h }, a.ar); has = (r.laws, r.own, r.rd, e, a.has) }

    -- a `&mut` slice that was lent on for this call, and a `&` slice that is the caller's own parameter, at the slot α
    abbrev pub by_mut : (R : RattleType) (j : ℕ) (ok : Within n j) (i : ℕ) {h : (get_row i L).1.Mod → MutBor (List R.Denot)} → Lent m R (rd 0 j βs) (get_row i L).1 h → τ· m (get_row i L).0 ≡ slice_ty (eT R) → Args m n βs ps (out i L) → Args m n βs (p_mut_s R j ok ∷ ps) L
    by_mut R j ok i {h} r e a = record { ar = (record { pos = i; ty = eT R; ref = h }, a.ar); has = (r.own, r.rd, e, a.has) }

    abbrev pub by_shr : (R : RattleType) (j : ℕ) (ok : Within n j) (i α : ℕ) {h : (get_row i L).1.Mod → Bor (List R.Denot)} → Lend m R (rd 0 j βs) α (get_row i L).1 h → τ· m (get_row i L).0 ≡ slice_ty (sT R α) → Args m n βs ps L → Args m n βs (p_shr_s R j ok ∷ ps) L
    by_shr R j ok i α {h} r e a = record { ar = (record { pos = i; ty = sT R α; ref = h }, a.ar); has = (r.laws, r.own, r.rd, e, a.has) }

-- ---- code
module _ {m : Spot} where
  infixr 20 ◌▹◌ ◌▸◌
  abbrev pub ◌▹◌ : {Γ Γ₁ : Cx} {a b : Body} {Δ : Outs} → S m Γ a Γ₁ → D m Γ₁ b Δ → D m Γ (seq a b) Δ
  ◌▹◌ {Γ} {Γ₁} {a} {b} {Δ} s d = record { Φ = λ Ψ. s.φ (d.Φ Ψ); go = Typed.s_seq m.𝓛 m.𝓣 m.E Γ Γ₁ a b Δ s.φ d.Φ s.go d.go }

  abbrev pub ◌▸◌ : {Γ Γ₁ : Cx} {b : Body} {Δ : Outs} → G m Γ Γ₁ → D m Γ₁ b Δ → D m Γ b Δ
  ◌▸◌ {Γ} {Γ₁} {b} {Δ} g d = record { Φ = λ Ψ. g.φ (d.Φ Ψ); go = Typed.g_pre_lem m.𝓛 m.𝓣 m.E Γ Γ₁ b Δ g.φ d.Φ g.go d.go }

  abbrev pub join : {Γ : Cx} {a b : Body} {Δ : Outs} (Γ₁ : Cx) → D m Γ a (with_next (some Γ₁) Δ) → D m Γ₁ b Δ → D m Γ (seq a b) Δ
  join {Γ} {a} {b} {Δ} Γ₁ s d = record { Φ = λ Ψ. s.Φ (want_next Γ₁ Δ (d.Φ Ψ) Ψ); go = Typed.t_seq m.𝓛 m.𝓣 m.E Γ Γ₁ a b Δ s.Φ d.Φ s.go d.go }

  -- no step: the context is written out
  abbrev pub at : (Γ : Cx) → G m Γ Γ
  at Γ = record { φ = λ Ψ u. Ψ u; go = record { go = λ Ψ ρ u p. via m.𝓤 (holds m.𝓛 m.E Γ Ψ) (holds_i m.𝓛 m.E Γ Ψ ρ u p) (m.𝓛.laws.⇛_intro (holds m.𝓛 m.E Γ Ψ)) } }

  -- a ghost step after a statement
  infixl 25 ◌◂◌
  abbrev pub ◌◂◌ : {Γ Γ₁ Γ₂ : Cx} {a : Body} → S m Γ a Γ₁ → G m Γ₁ Γ₂ → S m Γ a Γ₂
  ◌◂◌ {Γ} {Γ₁} {Γ₂} {a} s g = record { φ = λ Ψ. s.φ (g.φ Ψ); go = Typed.g_post m.𝓛 m.𝓣 m.E Γ Γ₁ Γ₂ a s.φ g.φ s.go g.go }

  -- a statement at the end of a block or of a turn
  abbrev pub last : {Γ : Cx} {a : Body} {Δ : Outs} → Leaves Δ.next → S m Γ a (the Δ.next) → D m Γ a Δ
  last {Γ} {a} {Δ} z s = record { Φ = λ Ψ. s.φ (at_next Δ Ψ); go = Typed.s_Typed m.𝓛 m.𝓣 m.E Γ a Δ s.φ z s.go }

  abbrev pub nexts : {Δ : Outs} → Leaves Δ.next → D m (the Δ.next) skip Δ
  nexts {Δ} z = record { Φ = at_next Δ; go = Typed.t_skip m.𝓛 m.𝓣 m.E Δ z }

  abbrev pub exits : (n : ℕ) {Δ : Outs} → Leaves (exit_at n Δ) → D m (the (exit_at n Δ)) (exit n) Δ
  exits n {Δ} z = record { Φ = at_exit n Δ; go = Typed.t_exit m.𝓛 m.𝓣 m.E n Δ z }

  abbrev pub returns : {Δ : Outs} → Leaves Δ.returns → D m (the Δ.returns) return Δ
  returns {Δ} z = record { Φ = at_ret Δ; go = Typed.t_return m.𝓛 m.𝓣 m.E Δ z }

  abbrev pub blocks : {Γ : Cx} {b : Body} {Δ : Outs} → D m Γ b (in_block₀ Δ) → D m Γ (block b) Δ
  blocks {Γ} {b} {Δ} d = record { Φ = λ Ψ. d.Φ (in_block Δ Ψ); go = Typed.t_block m.𝓛 m.𝓣 m.E Γ b Δ d.Φ d.go }

  -- a loop: how the values that a turn may change stand in the model, the invariant and the measure
  abbrev pub loops : {Vs : Type 0} {Γ : Cx} {b : Body} {Δ : Outs} (put : Vs → Mo Γ → Mo Γ) (I : Mo Γ → Vs → Type 0) (μ : Mo Γ → Vs → ℕ) → D m Γ b (in_loop₀ Γ Δ) → D m Γ (loop b) Δ
  loops {Vs} {Γ} {b} {Δ} put I μ d = record { Φ = LoopBy Γ Δ put I μ d.Φ; go = Typed.t_loop_by m.𝓛 m.𝓣 m.E Γ b Δ put I μ d.Φ d.go }

  module _ {Γ : Cx} where
    abbrev pub branch : {a b : Body} {Δ : Outs} (nc : ℕ) (t : (get_row nc Γ.locals).1.Mod → Bool) → Rd m (get_row nc Γ.locals).1 ty_bool (λ x. vbool (t x)) → τ· m (get_row nc Γ.locals).0 ≡ ty_bool → D m Γ a Δ → D m Γ b Δ → D m Γ (cond (copy (place (get_row nc Γ.locals).0 [])) a b) Δ
    branch {a} {b} {Δ} nc t r e x y = record { Φ = Φcond Γ Δ nc t x.Φ y.Φ; go = Scalar.t_cond m.𝓛 m.E m.𝓣 Γ nc t a b Δ x.Φ y.Φ r.go e x.go y.go }

    -- d = x
    abbrev pub put : (nd : ℕ) (σ : Sc) → Rm m (get_row nd Γ.locals).1 (ty_s σ) → (x : Op m Γ.locals) → τ· m (get_row nd Γ.locals).0 ≡ ty_s σ
        → ((u : Mo Γ) → val_s σ (σ.of (val_o Γ.locals x.op u)) ≡ val_o Γ.locals x.op u) → ((u : Mo Γ) → T (has_ty (ty_s σ) (val_o Γ.locals x.op u)))
        → S m Γ (assign (place (get_row nd Γ.locals).0 []) (rv_opd (op_o Γ.locals x.op))) (After Γ nd (sc_here σ))
    put nd σ tr x e sh ty = record { φ = Φuse Γ x.op nd (sc_here σ) σ.of; go = Scalar.t_use m.𝓛 m.E m.𝓣 Γ x.op nd (sc_here σ) (ty_s σ) (val_s σ) σ.of x.has tr.go (Scalar.Holds-Sc m.𝓛 σ) e sh ty }

    -- d = x o y
    abbrev pub puts : (nd : ℕ) (σ : Sc) → Rm m (get_row nd Γ.locals).1 (ty_s σ) → (o : Op2) (x y : Op m Γ.locals) → τ· m (get_row nd Γ.locals).0 ≡ ty_s σ
        → ((u : Mo Γ) → val_s σ (σ.of (op2_val o (val_o Γ.locals x.op u) (val_o Γ.locals y.op u))) ≡ op2_val o (val_o Γ.locals x.op u) (val_o Γ.locals y.op u))
        → ((u : Mo Γ) → T (has_ty (ty_s σ) (op2_val o (val_o Γ.locals x.op u) (val_o Γ.locals y.op u))))
        → S m Γ (assign (place (get_row nd Γ.locals).0 []) (op2 o (op_o Γ.locals x.op) (op_o Γ.locals y.op))) (After Γ nd (sc_here σ))
    puts nd σ tr o x y e sh ty = record { φ = Φop2 Γ o x.op y.op nd (sc_here σ) σ.of; go = Scalar.t_op2 m.𝓛 m.E m.𝓣 Γ o x.op y.op nd (sc_here σ) (ty_s σ) (val_s σ) σ.of x.has y.has tr.go (Scalar.Holds-Sc m.𝓛 σ) e sh ty }

    -- d = y, at a struct
    abbrev pub copies : (s : Struct) (ny nd : ℕ) {h : (ent₁ Γ ny nd).1.Mod → (R· s).Denot} → Vl m s (ent₁ Γ ny nd).1 h → Rm m (ent₂ Γ ny nd).1 (ty_v (valued s)) → τ· m (ent₁ Γ ny nd).0 ≡ ty_v (valued s) → τ· m (ent₂ Γ ny nd).0 ≡ ty_v (valued s)
        → S m Γ (assign (place (ent₂ Γ ny nd).0 []) (rv_opd (copy (place (ent₁ Γ ny nd).0 [])))) (Local.AfterLend Γ ny nd (ent₁ Γ ny nd).1 (whole (R· s)))
    copies s ny nd {h} v rm e₁ e₂ = record {
      φ = Φval_copy Γ ny nd (R· s) (ent₁ Γ ny nd).1 (whole (R· s)) h (λ x. x) (λ x. x);
      go = LocalCopy.t_val_copy m.𝓛 m.E m.𝓣 (λ ρ. Unit {0}) Γ ny nd (R· s) (ty_v (valued s)) (ty_v (valued s)) (ent₁ Γ ny nd).1 (whole (R· s)) h (λ x. x) (λ x. x)
          refl (Told-none m.𝓛 Γ.slots) v.go rm.go (Yields.Makes-mem m.𝓛 (λ ρ. Unit {0}) (R· s) refl (whole (R· s)) (λ x. x) (λ ρ told. Local.whole_mem m.𝓛 (R· s) ρ)) e₁ e₂;
    }

    -- *q = y, where q points to the element `idx` of the `&mut` slice ns, at the lifetime α
    abbrev pub stores : (s : Struct) (k : ℕ) (ns nq ny α : ℕ) (idx : Mo Γ → ℕ) {l : Life} {hs : (ent₁ Γ ns nq).1.Mod → MutBor (List (R· s).Denot)} {hq : (ent₂ Γ ns nq).1.Mod → ℕ × ℕ} {hy : (get_row ny (tab₂ Γ ns nq)).1.Mod → (R· s).Denot}
        → (mem (R· s)).size ≡ k → Same m (ent₁ Γ ns nq).1 (mslice (R· s) (nT (R· s) α) α) hs → Same m (ent₂ Γ ns nq).1 (sc_here s_ptr) hq → Vl m s (get_row ny (tab₂ Γ ns nq)).1 hy → get_life α Γ.slots ≡ l → IsTok l
        → τ· m (ent₂ Γ ns nq).0 ≡ ty_ptr → τ· m (get_row ny (tab₂ Γ ns nq)).0 ≡ ty_v (valued s)
        → S m Γ (assign (place (ent₂ Γ ns nq).0 (deref (ty_v (valued s)) ∷ [])) (rv_opd (copy (place (get_row ny (tab₂ Γ ns nq)).0 [])))) (AfterSl (R· s) Γ ns nq ny α (nT (R· s) α) l (get_row ny (tab₂ Γ ns nq)).1)
    stores s k ns nq ny α idx {l} {hs} {hq} {hy} ek s₁ s₂ v el tk e₁ e₂ = record {
      φ = Φsl_set_from (R· s) Γ ns nq ny α (nT (R· s) α) l (get_row ny (tab₂ Γ ns nq)).1 (by_size k) idx hs hq hy (λ x. x);
      go = Move.t_sl_set_from m.𝓛 m.E (R· s) m.𝓣 refl (λ ρ. Unit {0}) Γ ns nq ny α (nT (R· s) α) l (ty_v (valued s)) (ty_v (valued s)) (get_row ny (tab₂ Γ ns nq)).1 (by_size k) idx hs hq hy (λ x. x)
          (sized (mem (R· s)).size k ek) refl refl (Told-none m.𝓛 Γ.slots) s₁.go s₂.go v.go el tk e₁ e₂;
    }

    -- y = *q, where q points to the element `idx` of the `&` slice ns, at the lifetime α; dv stands past the end
    abbrev pub loads : (s : Struct) (k : ℕ) (ns nq ny α : ℕ) (idx : Mo Γ → ℕ) (dv : (R· s).Denot) {l : Life} {hs : (ent₁ Γ ns nq).1.Mod → Bor (List (R· s).Denot)} {hq : (ent₂ Γ ns nq).1.Mod → ℕ × ℕ}
        → (mem (R· s)).size ≡ k → Same m (ent₁ Γ ns nq).1 (sslice (R· s) (sT (R· s) α) α) hs → Same m (ent₂ Γ ns nq).1 (sc_here s_ptr) hq → Rm m (get_row ny (tab₂ Γ ns nq)).1 (ty_v (valued s)) → get_life α Γ.slots ≡ l → IsTok l
        → τ· m (ent₂ Γ ns nq).0 ≡ ty_ptr → τ· m (get_row ny (tab₂ Γ ns nq)).0 ≡ ty_v (valued s)
        → S m Γ (assign (place (get_row ny (tab₂ Γ ns nq)).0 []) (rv_opd (copy (place (ent₂ Γ ns nq).0 (deref (ty_v (valued s)) ∷ []))))) (AfterShs (R· s) Γ ns nq ny α (sT (R· s) α) l (whole (R· s)))
    loads s k ns nq ny α idx dv {l} {hs} {hq} ek s₁ s₂ rm el tk e₁ e₂ = record {
      φ = Φshs_copy_out (R· s) Γ ns nq ny α (sT (R· s) α) l (whole (R· s)) (by_size k) idx (λ x. x) dv (λ x. Unit {0}) hs hq;
      go = Move.t_shs_copy_out m.𝓛 m.E (R· s) m.𝓣 (shared_laws s) refl (LL.copy s.type s.copy m.𝓛) (halved m.𝓛 (c_struct s.type s.laws s.copy)) (λ ρ. Unit {0}) Γ ns nq ny α (sT (R· s) α) l
          (ty_v (valued s)) (ty_v (valued s)) (whole (R· s)) (by_size k) idx (λ x. x) dv (λ x. Unit {0}) hs hq (sized (mem (R· s)).size k ek) refl refl (Told-none m.𝓛 Γ.slots) (Learns-nothing m.𝓛 (R· s)) s₁.go s₂.go rm.go
          (Yields.Makes-mem m.𝓛 (λ ρ. Unit {0}) (R· s) refl (whole (R· s)) (λ x. x) (λ ρ told. Local.whole_mem m.𝓛 (R· s) ρ)) el tk e₁ e₂;
    }

    -- a call of what is known by its contract; βs says at which slot each lifetime of the callee is
    abbrev pub calls : (n : ℕ) (ps : List (ParamKind n)) (r : ResultKind n) (P : In n ps) (Q : Out n ps r) (k : Callee) → Known m.𝓛 m.𝓣 n ps r P Q k → (βs : List ℕ) (a : Args m n βs ps Γ.locals) (nd : ℕ)
        → Rm m (get_row nd (outs_m ps Γ.locals a.ar)).1 (ty_rc r (τ· m (get_row nd (outs_m ps Γ.locals a.ar)).0)) → HasH n βs Γ.slots → DestOk r βs (τ· m (get_row nd (outs_m ps Γ.locals a.ar)).0)
        → S m Γ (call k (ops_v ps Γ.locals a.ar) (place (get_row nd (outs_m ps Γ.locals a.ar)).0 [])) (Γafter ps r Γ a.ar nd βs (τ· m (get_row nd (outs_m ps Γ.locals a.ar)).0))
    calls n ps r P Q k c βs a nd rm h d = record {
      φ = both (call_b ps r P Q Γ a.ar nd βs (τ· m (get_row nd (outs_m ps Γ.locals a.ar)).0));
      go = t_call_plain m.𝓛 m.𝓣 n ps r P Q k c m.E (λ pos β. β) Γ a.ar nd βs (Call.sub_id m.𝓛 Γ.slots) a.has rm.go h d;
    }

    module _ (R : RattleType) where
      -- nd = &mut *nm, at a new lifetime β within α; then ns = (nd, nm.1)
      abbrev pub lends : (nm nd α β : ℕ) {l : Life} {h : (ent₁ Γ nm nd).1.Mod → MutBor (List R.Denot)} → Same m (ent₁ Γ nm nd).1 (mslice R (nT R α) α) h → Rm m (ent₂ Γ nm nd).1 (eT R) → get_life α Γ.slots ≡ l → IsTok l
          → field_of (τ· m (ent₁ Γ nm nd).0) 0 ≡ some (nT R α, 0) → τ· m (ent₂ Γ nm nd).0 ≡ eT R
          → S m Γ (assign (place (ent₂ Γ nm nd).0 []) (addr_of (place (ent₁ Γ nm nd).0 (field 0 ∷ deref (lone R.mir) ∷ [])))) (AfterLend R Γ nm nd α β (nT R α) (eT R) l)
      lends nm nd α β {l} {h} s rm el tk e₁ e₂ = record { φ = Φsl_relend R Γ nm nd α β (nT R α) (eT R) l h; go = Relend.t_sl_relend m.𝓛 m.E R m.𝓣 Γ nm nd α β (nT R α) (eT R) l 0 h s.go rm.go el tk e₁ refl e₂ (λ b o. tt) }

      abbrev pub packs : (np nd β : ℕ) {h : (ent₁ Γ np nd).1.Mod → MutBor (List R.Denot)} → Same m (ent₁ Γ np nd).1 (msptr R (eT R) β) h → Rm m (ent₂ Γ np nd).1 (slice_ty (eT R)) → (n : Op m (tab₂ Γ np nd)) → τ· m (ent₁ Γ np nd).0 ≡ eT R → τ· m (ent₂ Γ np nd).0 ≡ slice_ty (eT R)
          → S m Γ (assign (place (ent₂ Γ np nd).0 []) (aggregate (copy (place (ent₁ Γ np nd).0 []) ∷ op_o (tab₂ Γ np nd) n.op ∷ []))) (AfterAgg R (as_mut R) Γ np nd β (eT R) (eT R))
      packs np nd β {h} s rm n e₁ e₂ = record { φ = Φsl_aggregate R (as_mut R) Γ np nd β (eT R) (eT R) h n.op; go = Relend.t_sl_aggregate m.𝓛 m.E R m.𝓣 (as_mut R) Γ np nd β (eT R) (eT R) h n.op s.go rm.go n.has e₁ e₂ (λ b o k. tt) }

      -- and it is back
      abbrev pub back : (nd nm α β : ℕ) (l : Life) {h : (ent₁ Γ nd nm).1.Mod → MutBor (List R.Denot)} {h' : (ent₂ Γ nd nm).1.Mod → MutBor (List R.Denot) × ℕ} → Same m (ent₁ Γ nd nm).1 (msleft R (eT R)) h → Same m (ent₂ Γ nd nm).1 (mslice_owed R (nT R α) α β l) h'
          → get_life β Γ.slots ≡ dead → get_life α (set_life β dead (set_life β off Γ.slots)) ≡ off → G m Γ (AfterBack R Γ nd nm α β (nT R α) (eT R) l)
      back nd nm α β l {h} {h'} s s' e₃ e₄ = record { φ = Φback_sl R Γ nd nm α β (nT R α) (eT R) l h h'; go = Relend.g_back_sl m.𝓛 m.E R Γ nd nm α β (nT R α) (eT R) l h h' s.go s'.go e₃ e₄ }

    -- a `&mut` slice of bytes is lent as `&` at a new lifetime β; nd = &*nq, where nq points to its part from `idx` to `end`; ns = (nd, the count); and it is back
    abbrev pub shares : (nm α β : ℕ) {l : Life} {h : (get_row nm Γ.locals).1.Mod → MutBor (List ℕ)} → Same m (get_row nm Γ.locals).1 (mslice bytes (nT bytes α) α) h → get_life α Γ.slots ≡ l → IsTok l → G m Γ (slots≔ (set_life α off Γ.slots) (After Γ nm (mslice_owed_s bytes (nT bytes α) α β l)))
    shares nm α β {l} {h} s e tk = record {
      φ = Φsl_shared bytes Γ nm α β (nT bytes α) l h;
      go = Reshare.g_sl_reshare_as m.𝓛 m.E bytes (λ ρ. Unit {0}) Γ nm α β (nT bytes α) l (set_life α off Γ.slots) h (Told-none m.𝓛 Γ.slots)
          (each_copy m.𝓛 (λ ρ. Unit {0}) (set_life α off Γ.slots) bytes (laws_f (f_int w8)) β (c_rf (f_int w8))) s.go (Takes-whole m.𝓛 α Γ.slots l e tk);
    }

    abbrev pub cuts : (ns nq nd α β : ℕ) (l₀ : Life) (idx end : Mo Γ → ℕ) {l : Life} {hr : (ent₁ Γ ns nq).1.Mod → MutBor (List ℕ)} {hq : (ent₂ Γ ns nq).1.Mod → ℕ × ℕ}
        → Same m (ent₁ Γ ns nq).1 (mslice_owed_s bytes (nT bytes α) α β l₀) hr → Same m (ent₂ Γ ns nq).1 (sc_here s_ptr) hq → Rm m (get_row nd (tab₂ Γ ns nq)).1 iT → get_life β Γ.slots ≡ l → IsTok l → τ· m (ent₂ Γ ns nq).0 ≡ ty_ptr → τ· m (get_row nd (tab₂ Γ ns nq)).0 ≡ iT
        → S m Γ (assign (place (get_row nd (tab₂ Γ ns nq)).0 []) (addr_of (place (ent₂ Γ ns nq).0 (deref (ty_int w8) ∷ [])))) (AfterPart bytes Γ ns nq nd β (mslice_owed_s bytes (nT bytes α) α β l₀) iT l)
    cuts ns nq nd α β l₀ idx end {l} {hr} {hq} s₁ s₂ rm e tk e₁ e₂ = record {
      φ = Φshr_part bytes Γ ns nq nd β (mslice_owed_s bytes (nT bytes α) α β l₀) iT l by_byte hr as_bor hq idx end;
      go = PartAt.t_shr_part m.𝓛 m.E bytes m.𝓣 (halved m.𝓛 (c_rf (f_int w8))) Γ ns nq nd β (mslice_owed_s bytes (nT bytes α) α β l₀) (ty_int w8) iT l by_byte hr as_bor hq idx end (λ i o. at_byte o i)
          s₁.go (Reshare.lends_owed_s m.𝓛 m.E bytes (laws_f (f_int w8)) (nT bytes α) α β l₀) s₂.go rm.go e tk e₁ e₂ (λ b o. tt);
    }

    -- the same of a `&` slice of bytes at the slot α
    abbrev pub cuts_of : (ns nq nd α : ℕ) (idx end : Mo Γ → ℕ) {l : Life} {hs : (ent₁ Γ ns nq).1.Mod → Bor (List ℕ)} {hq : (ent₂ Γ ns nq).1.Mod → ℕ × ℕ}
        → Same m (ent₁ Γ ns nq).1 (sslice bytes (sT bytes α) α) hs → Same m (ent₂ Γ ns nq).1 (sc_here s_ptr) hq → Rm m (get_row nd (tab₂ Γ ns nq)).1 iT → get_life α Γ.slots ≡ l → IsTok l → τ· m (ent₂ Γ ns nq).0 ≡ ty_ptr → τ· m (get_row nd (tab₂ Γ ns nq)).0 ≡ iT
        → S m Γ (assign (place (get_row nd (tab₂ Γ ns nq)).0 []) (addr_of (place (ent₂ Γ ns nq).0 (deref (ty_int w8) ∷ [])))) (AfterPartS bytes Γ ns nq nd α (sT bytes α) iT l)
    cuts_of ns nq nd α idx end {l} {hs} {hq} s₁ s₂ rm e tk e₁ e₂ = record {
      φ = Φshs_part_same bytes Γ ns nq nd α (sT bytes α) iT l by_byte hs hq idx end;
      go = PartAt.t_shs_part_same m.𝓛 m.E bytes m.𝓣 (laws_f (f_int w8)) (halved m.𝓛 (c_rf (f_int w8))) Γ ns nq nd α (ty_int w8) (sT bytes α) iT l by_byte hs hq idx end (λ i o. at_byte o i) s₁.go s₂.go rm.go e tk e₁ e₂ (λ b o. tt);
    }

    abbrev pub packs_part : (np nd β : ℕ) {h : (ent₁ Γ np nd).1.Mod → Bor (List ℕ)} → Same m (ent₁ Γ np nd).1 (ssptr bytes iT β) h → Rm m (ent₂ Γ np nd).1 (slice_ty iT) → (n : Op m (tab₂ Γ np nd)) → τ· m (ent₁ Γ np nd).0 ≡ iT → τ· m (ent₂ Γ np nd).0 ≡ slice_ty iT
        → S m Γ (assign (place (ent₂ Γ np nd).0 []) (aggregate (copy (place (ent₁ Γ np nd).0 []) ∷ op_o (tab₂ Γ np nd) n.op ∷ []))) (AfterAgg bytes (as_shr bytes) Γ np nd β iT iT)
    packs_part np nd β {h} s rm n e₁ e₂ = record { φ = Φsl_aggregate bytes (as_shr bytes) Γ np nd β iT iT h n.op; go = Relend.t_sl_aggregate m.𝓛 m.E bytes m.𝓣 (as_shr bytes) Γ np nd β iT iT h n.op s.go rm.go n.has e₁ e₂ (λ b o k. tt) }

    abbrev pub unshares : (nm α β : ℕ) (l : Life) {h : (get_row nm Γ.locals).1.Mod → MutBor (List ℕ)} → Same m (get_row nm Γ.locals).1 (mslice_owed_s bytes (nT bytes α) α β l) h → get_life β Γ.slots ≡ dead → get_life α (set_life β dead (set_life β off Γ.slots)) ≡ off → G m Γ (AfterBackShr bytes Γ nm α β (nT bytes α) l)
    unshares nm α β l {h} s e₃ e₄ = record { φ = Φback_sl_shr bytes Γ nm α β (nT bytes α) l h; go = Reshare.g_back_sl_shr m.𝓛 m.E bytes Γ nm α β (nT bytes α) l h s.go e₃ e₄ }

    -- a local table: nd = [y; n]; it is an array; p = &mut nd; and it is back
    abbrev pub repeats : (s : Struct) (n i nd : ℕ) {h : (get_row i (out nd Γ.locals)).1.Mod → (R· s).Denot} → Vl m s (get_row i (out nd Γ.locals)).1 h → Rd m (get_row i (out nd Γ.locals)).1 (ty_v (valued s)) (λ x. LL.val s.type s.laws (h x)) → τ· m (get_row i (out nd Γ.locals)).0 ≡ ty_v (valued s)
        → Rm m (get_row nd Γ.locals).1 (ty_array (ty_v (valued s)) n) → τ· m (get_row nd Γ.locals).0 ≡ ty_array (ty_v (valued s)) n
        → S m Γ (assign (place (get_row nd Γ.locals).0 []) (repeat (copy (place (get_row i (out nd Γ.locals)).0 [])) n)) (After Γ nd (whole (Array (R· s) n)))
    repeats s n i nd {h} v r e₁ rm e₂ = record {
      φ = pass Γ (After Γ nd (whole (Array (R· s) n))) (n_repeat (R· s) n Γ nd (λ u. h (get i (out nd Γ.locals) u)));
      go = Repeat.t_repeat_by m.𝓛 m.E m.𝓣 (R· s) (LL.lawful s.type s.laws m.𝓛) (LL.copy s.type s.copy m.𝓛) n Γ nd
          (o_at i (ty_v (valued s)) (λ x. LL.val s.type s.laws (h x))) (λ u. h (get i (out nd Γ.locals) u)) (λ ρ. Unit {0}) rm.go (r.go, e₁) e₂ (Told-none m.𝓛 Γ.slots)
          (λ ρ u pf wa. Gives.elem_local m.𝓛 m.E ρ (R· s) (LL.val s.type s.laws) (LL.tells s.type s.laws) (out nd Γ.locals) u (λ ρ. Unit {0}) pf i (ty_v (valued s)) h v.go);
    }

    abbrev pub arrays : (s : Struct) (n nd : ℕ) {h : (get_row nd Γ.locals).1.Mod → List (R· s).Denot} → Same m (get_row nd Γ.locals).1 (arr_f (R· s) n 0) h → G m Γ (After Γ nd (arr_f (R· s) n 0))
    arrays s n nd {h} r = record { φ = pass Γ (After Γ nd (arr_f (R· s) n 0)) (AtSlots.n_as_by Γ nd (arr_f (R· s) n 0) h); go = AtSlots.g_as_by m.𝓛 m.E (λ ρ. Unit {0}) Γ nd (arr_f (R· s) n 0) h (Told-none m.𝓛 Γ.slots) (λ ρ told. r.go ρ) }

    abbrev pub borrows : (s : Struct) (n na nd β : ℕ) {h : (ent₁ Γ na nd).1.Mod → List (R· s).Denot} → Same m (ent₁ Γ na nd).1 (arr_f (R· s) n 0) h → Rm m (ent₂ Γ na nd).1 (aT (R· s) n) → τ· m (ent₂ Γ na nd).0 ≡ aT (R· s) n → Room (R· s) n
        → S m Γ (assign (place (ent₂ Γ na nd).0 []) (addr_of (place (ent₁ Γ na nd).0 []))) (Local.AfterLend Γ na nd (arr_owed (R· s) n β) (msptr (R· s) (aT (R· s) n) β))
    borrows s n na nd β {h} r rm e rn = record { φ = ArrayB.Φarr_borrow (R· s) Γ (spot_of m.𝓤 m.𝓛.H m.E (ent₁ Γ na nd).0).1 na nd n β (aT (R· s) n) h; go = ArrayB.t_arr_borrow m.𝓛 m.E m.𝓣 (R· s) Γ na nd n β (aT (R· s) n) h r.go rm.go e (λ b o. tt) rn }

    abbrev pub packs_all : (s : Struct) (n np nd β : ℕ) {h : (ent₁ Γ np nd).1.Mod → MutBor (List (R· s).Denot)} → Same m (ent₁ Γ np nd).1 (msptr (R· s) (aT (R· s) n) β) h → Rm m (ent₂ Γ np nd).1 (slice_ty (eT (R· s))) → T¹ (ltb n (2 ^ bits w64)) → τ· m (ent₁ Γ np nd).0 ≡ aT (R· s) n → τ· m (ent₂ Γ np nd).0 ≡ slice_ty (eT (R· s))
        → S m Γ (assign (place (ent₂ Γ np nd).0 []) (aggregate (copy (place (ent₁ Γ np nd).0 []) ∷ int w64 n ∷ []))) (AfterAgg (R· s) (as_mut (R· s)) Γ np nd β (aT (R· s) n) (eT (R· s)))
    packs_all s n np nd β {h} r rm fits e₁ e₂ = record { φ = Φsl_aggregate (R· s) (as_mut (R· s)) Γ np nd β (aT (R· s) n) (eT (R· s)) h (o_int w64 n); go = Relend.t_sl_aggregate m.𝓛 m.E (R· s) m.𝓣 (as_mut (R· s)) Γ np nd β (aT (R· s) n) (eT (R· s)) h (o_int w64 n) r.go rm.go fits e₁ e₂ (λ b o k. tt) }

    abbrev pub returned : (s : Struct) (n nd na β : ℕ) {h : (ent₁ Γ nd na).1.Mod → MutBor (List (R· s).Denot)} {h' : (ent₂ Γ nd na).1.Mod → ℕ} → Same m (ent₁ Γ nd na).1 (msleft (R· s) (eT (R· s))) h → Same m (ent₂ Γ nd na).1 (arr_owed (R· s) n β) h' → get_life β Γ.slots ≡ dead
        → G m Γ (AfterBackL Γ nd na β (slice_ty (eT (R· s))) (arr_f (R· s) n 0))
    returned s n nd na β {h} {h'} r r' e = record { φ = ArrayB.Φback_arr (R· s) Γ nd na β n (eT (R· s)) h h'; go = ArrayB.g_back_arr m.𝓛 m.E (R· s) Γ nd na β n (eT (R· s)) h h' r.go r'.go e }

    -- the same of its first entries, as many as `count`: p = &mut nd; ns = (p, the count); and it is back
    abbrev pub borrows_first : (s : Struct) (n na nd β : ℕ) (count : Mo Γ → ℕ) {h : (ent₁ Γ na nd).1.Mod → List (R· s).Denot} → Same m (ent₁ Γ na nd).1 (arr_f (R· s) n 0) h → Rm m (ent₂ Γ na nd).1 (aT (R· s) n) → τ· m (ent₂ Γ na nd).0 ≡ aT (R· s) n → Room (R· s) n
        → S m Γ (assign (place (ent₂ Γ na nd).0 []) (addr_of (place (ent₁ Γ na nd).0 []))) (Local.AfterLend Γ na nd (arr_owed_p (R· s) n β) (msptr (R· s) (aT (R· s) n) β))
    borrows_first s n na nd β count {h} r rm e rn = record { φ = ArrayS.Φarr_borrowᵖ (R· s) Γ na nd n β (aT (R· s) n) h count; go = ArrayS.t_arr_borrowᵖ m.𝓛 m.E m.𝓣 (R· s) Γ na nd n β (aT (R· s) n) h count r.go rm.go e (λ b o. tt) rn }

    abbrev pub packs_first : (s : Struct) (n np nd β : ℕ) {h : (ent₁ Γ np nd).1.Mod → MutBor (List (R· s).Denot)} → Same m (ent₁ Γ np nd).1 (msptr (R· s) (aT (R· s) n) β) h → Rm m (ent₂ Γ np nd).1 (slice_ty (eT (R· s))) → (k : Op m (tab₂ Γ np nd)) → τ· m (ent₁ Γ np nd).0 ≡ aT (R· s) n → τ· m (ent₂ Γ np nd).0 ≡ slice_ty (eT (R· s))
        → S m Γ (assign (place (ent₂ Γ np nd).0 []) (aggregate (copy (place (ent₁ Γ np nd).0 []) ∷ op_o (tab₂ Γ np nd) k.op ∷ []))) (AfterAgg (R· s) (as_mut (R· s)) Γ np nd β (aT (R· s) n) (eT (R· s)))
    packs_first s n np nd β {h} r rm k e₁ e₂ = record { φ = Φsl_aggregate (R· s) (as_mut (R· s)) Γ np nd β (aT (R· s) n) (eT (R· s)) h k.op; go = Relend.t_sl_aggregate m.𝓛 m.E (R· s) m.𝓣 (as_mut (R· s)) Γ np nd β (aT (R· s) n) (eT (R· s)) h k.op r.go rm.go k.has e₁ e₂ (λ b o k. tt) }

    abbrev pub returned_first : (s : Struct) (n nd na β : ℕ) {h : (ent₁ Γ nd na).1.Mod → MutBor (List (R· s).Denot)} {h' : (ent₂ Γ nd na).1.Mod → ℕ × ℕ × List (R· s).Denot} → Same m (ent₁ Γ nd na).1 (msleft (R· s) (eT (R· s))) h → Same m (ent₂ Γ nd na).1 (arr_owed_p (R· s) n β) h' → get_life β Γ.slots ≡ dead
        → G m Γ (AfterBackL Γ nd na β (slice_ty (eT (R· s))) (arr_f (R· s) n 0))
    returned_first s n nd na β {h} {h'} r r' e = record { φ = ArrayS.Φback_arrᵖ (R· s) Γ nd na β n (eT (R· s)) h h'; go = ArrayS.g_back_arrᵖ m.𝓛 m.E (R· s) Γ nd na β n (eT (R· s)) h h' r.go r'.go e }

    -- a local array is lent as `&`: p = &na; ns = (p, n); and it is back
    abbrev pub views : (s : Struct) (n na nd β : ℕ) {h : (ent₁ Γ na nd).1.Mod → List (R· s).Denot} → Same m (ent₁ Γ na nd).1 (arr_f (R· s) n 0) h → Rm m (ent₂ Γ na nd).1 (vT (R· s) n) → τ· m (ent₂ Γ na nd).0 ≡ vT (R· s) n → Room (R· s) n
        → S m Γ (assign (place (ent₂ Γ na nd).0 []) (addr_of (place (ent₁ Γ na nd).0 []))) (Local.AfterLend Γ na nd (arr_shr (R· s) n β) (ssptr (R· s) (vT (R· s) n) β))
    views s n na nd β {h} r rm e rn = record {
      φ = ArrayS.Φarr_share (R· s) Γ na nd n β (vT (R· s) n) h;
      go = ArrayS.t_arr_share_as m.𝓛 m.E m.𝓣 (λ ρ. Unit {0}) (R· s) (shared_laws s) Γ na nd n β (vT (R· s) n) h (Told-none m.𝓛 Γ.slots)
          (each_copy m.𝓛 (λ ρ. Unit {0}) Γ.slots (R· s) (shared_laws s) β (c_struct s.type s.laws s.copy)) r.go rm.go e (λ b o. tt) rn;
    }

    abbrev pub packs_view : (s : Struct) (n np nd β : ℕ) {h : (ent₁ Γ np nd).1.Mod → Bor (List (R· s).Denot)} → Same m (ent₁ Γ np nd).1 (ssptr (R· s) (vT (R· s) n) β) h → Rm m (ent₂ Γ np nd).1 (slice_ty (wT (R· s))) → T¹ (ltb n (2 ^ bits w64)) → τ· m (ent₁ Γ np nd).0 ≡ vT (R· s) n → τ· m (ent₂ Γ np nd).0 ≡ slice_ty (wT (R· s))
        → S m Γ (assign (place (ent₂ Γ np nd).0 []) (aggregate (copy (place (ent₁ Γ np nd).0 []) ∷ int w64 n ∷ []))) (AfterAgg (R· s) (as_shr (R· s)) Γ np nd β (vT (R· s) n) (wT (R· s)))
    packs_view s n np nd β {h} r rm fits e₁ e₂ = record { φ = Φsl_aggregate (R· s) (as_shr (R· s)) Γ np nd β (vT (R· s) n) (wT (R· s)) h (o_int w64 n); go = Relend.t_sl_aggregate m.𝓛 m.E (R· s) m.𝓣 (as_shr (R· s)) Γ np nd β (vT (R· s) n) (wT (R· s)) h (o_int w64 n) r.go rm.go fits e₁ e₂ (λ b o k. tt) }

    abbrev pub unviews : (s : Struct) (n na β : ℕ) {h : (get_row na Γ.locals).1.Mod → List (R· s).Denot} → Same m (get_row na Γ.locals).1 (arr_shr (R· s) n β) h → get_life β Γ.slots ≡ dead → G m Γ (AfterOver Γ na β (arr_f (R· s) n 0))
    unviews s n na β {h} r e = record { φ = ArrayS.Φback_arr_shr (R· s) Γ na n β h; go = ArrayS.g_back_arr_shr m.𝓛 m.E (R· s) Γ na n β h r.go e }

    -- a local is room from here on; a lifetime begins, ends, and is forgotten
    abbrev pub room : (n : ℕ) {τ : Ty} → Rm m (get_row n Γ.locals).1 τ → G m Γ (After Γ n (any_gone τ))
    room n {τ} r = record { φ = pass Γ (After Γ n (any_gone τ)) (n_room Γ n τ); go = Scalar.g_room m.𝓛 m.E Γ n τ r.go }

    abbrev pub begin : (α : ℕ) → Fresh α Γ.locals → G m Γ (Begun Γ α)
    begin α f = record { φ = pass Γ (Begun Γ α) (λ u. u); go = Lifetime.g_begin m.𝓛 m.E Γ α f }

    abbrev pub finish : (α : ℕ) → get_life α Γ.slots ≡ alive → G m Γ (Ended Γ α)
    finish α e = record { φ = pass Γ (Ended Γ α) (λ u. u); go = Lifetime.g_end m.𝓛 m.E Γ α e }

    abbrev pub lose : (α : ℕ) {l : Life} → get_life α Γ.slots ≡ l → G m Γ (Forgot Γ α)
    lose α {l} e = record { φ = pass Γ (Forgot Γ α) (λ u. u); go = Lifetime.g_forget m.𝓛 m.E Γ α l e }

-- ---- a function's locals, from its MIR
abbrev tys_from : ℕ → List Local → List Ty
tys_from n [] = []
tys_from zero (local t h ∷ ls) = t ∷ tys_from zero ls
tys_from (suc n) (l ∷ ls) = tys_from n ls

abbrev homes : List Local → List Home
homes [] = []
homes (local t h ∷ ls) = h ∷ homes ls

-- ---- a contract that is plain, as the rules take it; how its theorem is closed, and how it is cited
pub record Contract : Type 3 where
  pub n : ℕ
  pub ps : List (ParamKind n)
  pub r : ResultKind n
  pub req : (κs : Lfts n) → ArgsD (Sig n ps r [] 0) κs → Unit {0} → (w : World) → Pr w
  pub ens : (κs : Lfts n) → ArgsD (Sig n ps r [] 0) κs → Unit {0} → ResD (Sig n ps r [] 0) κs → AtExit (ended_of n ps r) κs → (w : World) → Pr w
  pub rq : (κs : Lfts n) (a : ArgsD (Sig n ps r [] 0) κs) (g : Unit {0}) → Read (InW (Sig n ps r [] 0) κs a) no_know (req κs a g)
  pub en : (κs : Lfts n) (a : ArgsD (Sig n ps r [] 0) κs) (g : Unit {0}) (z : ResD (Sig n ps r [] 0) κs) (e : AtExit (ended_of n ps r) κs) → Read (Written.Base n ps r (no_pin (Sig n ps r [] 0)) κs a) (no_own (ended_of n ps r) κs z e) (ens κs a g z e)
  pub wants : (κs : Lfts n) (a : ArgsD (Sig n ps r [] 0) κs) (g : Unit {0}) → AllOf (rq κs a g).wants
  pub wants' : (κs : Lfts n) (a : ArgsD (Sig n ps r [] 0) κs) (z : ResD (Sig n ps r [] 0) κs) (e : AtExit (ended_of n ps r) κs) → AllOf (en κs a tt z e).wants
  pub lent : (w : World) (κs : Lfts n) (a : ArgsD (Sig n ps r [] 0) κs) → ent w.𝓤 (emp w.𝓤) (all∗ w ((rq κs a tt).held w))
  pub passes : (w : World) (κs : Lfts n) (a : ArgsD (Sig n ps r [] 0) κs) (g : Unit {0}) (z : ResD (Sig n ps r [] 0) κs) (e : AtExit (ended_of n ps r) κs) → ent w.𝓤 (all∗ w ((rq κs a g).held w)) (all∗ w ((en κs a g z e).held w))

-- of a function's clauses, which bind no ghost value (g₀), and their readings, which hold nothing
module _ (n : ℕ) (ps : List (ParamKind n)) (r : ResultKind n) (cl : (w : World) → Clauses w.𝓤 (ended_of n ps r)) (g₀ : (w : World) (κs : Lfts n) (a : ArgsD (Sig n ps r [] 0) κs) → (cl w κs a).ghost) where
  abbrev pub plainly : (rq : (κs : Lfts n) (a : ArgsD (Sig n ps r [] 0) κs) → Read (InW (Sig n ps r [] 0) κs a) no_know (λ w. (cl w κs a).requires (g₀ w κs a)))
      → (en : (κs : Lfts n) (a : ArgsD (Sig n ps r [] 0) κs) (z : ResD (Sig n ps r [] 0) κs) (e : AtExit (ended_of n ps r) κs) → Read (Written.Base n ps r (no_pin (Sig n ps r [] 0)) κs a) (no_own (ended_of n ps r) κs z e) (λ w. (cl w κs a).ensures (g₀ w κs a) z e))
      → ((κs : Lfts n) (a : ArgsD (Sig n ps r [] 0) κs) → AllOf (rq κs a).wants) → ((κs : Lfts n) (a : ArgsD (Sig n ps r [] 0) κs) (z : ResD (Sig n ps r [] 0) κs) (e : AtExit (ended_of n ps r) κs) → AllOf (en κs a z e).wants)
      → ((w : World) (κs : Lfts n) (a : ArgsD (Sig n ps r [] 0) κs) → ent w.𝓤 (emp w.𝓤) (all∗ w ((rq κs a).held w)))
      → ((w : World) (κs : Lfts n) (a : ArgsD (Sig n ps r [] 0) κs) (z : ResD (Sig n ps r [] 0) κs) (e : AtExit (ended_of n ps r) κs) → ent w.𝓤 (all∗ w ((rq κs a).held w)) (all∗ w ((en κs a z e).held w))) → Contract
  plainly rq en ws ws' ln ps' = record {
    n = n;
    ps = ps;
    r = r;
    req = λ κs a g w. (cl w κs a).requires (g₀ w κs a);
    ens = λ κs a g z e w. (cl w κs a).ensures (g₀ w κs a) z e;
    rq = λ κs a g. rq κs a;
    en = λ κs a g z e. en κs a z e;
    wants = λ κs a g. ws κs a;
    wants' = ws';
    lent = ln;
    passes = λ w κs a g z e. ps' w κs a z e;
  }

-- where a function's derivation stands
abbrev pub spot : World → RoutineEnv → Contract → Fn → List ℕ → Spot
spot w γ c f bs = record { M = w.M; 𝓤 = w.𝓤; 𝓛 = w.𝓛; 𝓣 = Over w.𝓛 w.𝓜 w.𝓡 γ; E = EnvOf w.𝓛 (ty_r c.r ∷ tys_p c.ps (tys_from (suc (length c.ps)) f.locals)) bs }

module _ (c : Contract) where
  abbrev pub Pre : In c.n c.ps
  Pre = Written.Pre c.n c.ps c.r (Unit {0}) c.req c.ens c.rq (no_pin (Sig c.n c.ps c.r [] 0)) (no_own (ended_of c.n c.ps c.r)) c.en tt

  abbrev pub Post : Out c.n c.ps c.r
  Post = Written.Post c.n c.ps c.r (Unit {0}) c.req c.ens c.rq (no_pin (Sig c.n c.ps c.r [] 0)) (no_own (ended_of c.n c.ps c.r)) c.en tt

  abbrev pub Asked : In c.n c.ps
  Asked = Written.Asked c.n c.ps c.r (Unit {0}) c.req c.ens c.rq (no_pin (Sig c.n c.ps c.r [] 0)) (no_own (ended_of c.n c.ps c.r)) c.en tt

  abbrev pub Learnt : Out c.n c.ps c.r
  Learnt = Written.Learnt c.n c.ps c.r (Unit {0}) c.req c.ens c.rq (no_pin (Sig c.n c.ps c.r [] 0)) (no_own (ended_of c.n c.ps c.r)) c.en tt

  module _ (w : World) (γ : RoutineEnv) (k : Callee) where
    pub cites : (ρ : Routine) → γ k ≡ ρ → Written.Holds c.n c.ps c.r (Unit {0}) c.req c.ens w (w.𝓡.run ρ)
        → Known w.𝓛 (Over w.𝓛 w.𝓜 w.𝓡 γ) c.n c.ps c.r Asked Learnt k
    cites ρ same met = Written.cited c.n c.ps c.r (Unit {0}) c.req c.ens c.rq (no_pin (Sig c.n c.ps c.r [] 0)) (no_own (ended_of c.n c.ps c.r)) c.en w γ k ρ same (λ κs a. tt) (c.lent w)
        (λ κs a z ws ft p. c.wants' κs a z (seen (ended_of c.n c.ps c.r) κs a ws)) (λ κs. no_pins (Sig c.n c.ps c.r [] 0) κs w) met

    -- the function: a derivation of its body, with m lifetimes of its own, and what its transformer asks on entry
    module _ (m : ℕ) (f : Fn) where
      abbrev xs : List Ty
      xs = tys_from (suc (length c.ps)) f.locals

      abbrev pub Derived : Type 2
      Derived = (κs : Lfts c.n) (qs : Shares c.n) (bs : List ℕ) → D (spot w γ c f bs) (Γin c.n c.ps c.r xs m κs qs) f.body (Δret c.n c.ps c.r xs m κs qs)

      abbrev pub Laid : Derived → Type 0
      Laid d = (κs : Lfts c.n) (qs : Shares c.n) (a : Dens κs c.ps) → GoodsP κs c.ps a → Pre κs a → (bs : List ℕ) → (d κs qs bs).Φ (want_q c.n c.ps c.r xs m κs qs a (Post κs a)) (init c.n c.ps c.r xs m κs qs a)

      pub proves : ◌≡◌ {A = Fn} f (fn_of c.n c.ps c.r xs m (homes f.locals) f.body) → Closed w.𝓤 w.𝓛.H (tables w.𝓤 w.𝓛.H w.𝓜 w.𝓡 γ).C (tables w.𝓤 w.𝓛.H w.𝓜 w.𝓡 γ).Λ k f → (d : Derived) → Laid d → Written.Holds c.n c.ps c.r (Unit {0}) c.req c.ens w (w.𝓡.run (γ k))
      proves same closed d l = Written.close c.n c.ps c.r (Unit {0}) c.req c.ens c.rq (no_pin (Sig c.n c.ps c.r [] 0)) (no_own (ended_of c.n c.ps c.r)) c.en w γ k f closed c.wants (λ κs. no_owns (ended_of c.n c.ps c.r) (stays c.ps) κs w)
          (λ κs a g z ws ft p q. c.passes w κs a g z (seen (ended_of c.n c.ps c.r) κs a ws))
          (λ g. subst (λ (e : Fn). Triple w.𝓤 (WpFn w.𝓤 w.𝓛.H (Over w.𝓛 w.𝓜 w.𝓡 γ).C (Over w.𝓛 w.𝓜 w.𝓡 γ).Λ e) (plain_of w.𝓛 c.n c.ps c.r Pre Post)) (sym same)
          (t_fn_plain w.𝓛 (Over w.𝓛 w.𝓜 w.𝓡 γ) c.n c.ps c.r xs m (homes f.locals) f.body (λ κs qs bs. (d κs qs bs).Φ) (λ κs qs bs bd. (d κs qs bs).go) Pre Post l))

abbrev pub world : {M : Type 1} {𝓤 : Ura M} (𝓛 : Logic 𝓤) (𝓜 : Model 𝓤 𝓛.H) (𝓡 : Running 𝓤 𝓛.H 𝓜) → World
world {M} {𝓤 = 𝓤} 𝓛 𝓜 𝓡 = record { M = M; 𝓤 = 𝓤; 𝓛 = 𝓛; 𝓜 = 𝓜; 𝓡 = 𝓡 }
