-- Reuse, and the records that are written.
use Rattle.std.proofs.Common.{◌≡◌, ◌≢◌, ◌<◌, ◌∙◌, ℕ, true, List, [], ◌∷◌, map, Some, Contains, refl, sym, ap, subst, arith}
use Rattle.std.specs.List.{AllByRecursion}
use Rattle.pb_place_types.specs.Folders.{files_in}
use Rattle.pb_place_types.specs.Paths.{is_below}
use Rattle.pb_place_types.specs.World.{World, Map, Answers}
use Rattle.pb_place_types.specs.declared.command.Command.{Command}
use Rattle.pb_place_types.proofs.Within.{at_below, share_no_path}
use Rattle.pb_record.specs.Commands.{command_of}
use Rattle.pb_record.specs.declared.record.Input.{Input}
use Rattle.pb_record.specs.declared.record.Needed.{Needed}
use Rattle.pb_record.specs.declared.record.Needed.TheVariants.{Copies, Numbers}
use Rattle.pb_record.specs.declared.record.Record.{Record}
use Rattle.pb_store_soundness.specs.Inputs.{Judge, Agrees, SameBelow, IsHonest, input_in, name_of, reply_in}
use Rattle.pb_store_soundness.specs.Records.{RecordParser, out_of, record_path, record_at, number_in, numbered_in, number_of, needs_of}
use Rattle.pb_store_soundness.specs.Grounded.{RecordMap, Grounded, grounded, Reaches, named, onward}
use Rattle.pb_store_soundness.specs.Sound.{Sound, IsTrueRecord, TrueBy, TrueNumbers, Rests, Backs}
use Rattle.pb_store_soundness.specs.Laws.{Became}
use Rattle.pb_store_soundness.specs.Reuse.{number_if, NeededNow, IsSame, AreGrounded, GroundsLaw, ReuseLaw, ReadByNeeds, own, beyond, NamesNeeds, IsPut, RenewLaw, SparesLaw, PutGroundsLaw}
use Rattle.pb_store_soundness.proofs.Elements.{any_at}
use Rattle.pb_store_soundness.proofs.Becoming.{one, none_some, Stays, grounded_number, need_grounded, reached_grounded, reached, reaches, was_grounded}
use Rattle.pb_store_soundness.proofs.Four.{other_stays, put_became, put}
use Rattle.pb_store_soundness.proofs.RecordPaths.{its_key, out_record_apart, folder_still}

-- what is true of a record of format 2
numbers_by : (judge : Judge) (child : Answers) (folder : List ℕ) (at : RecordMap) (files : Map) (key : List ℕ) (r : Record) (number : ℕ) (needed : Needed) → number_in needed ≡ Some number
    → TrueBy judge child folder at files key r needed → TrueNumbers judge child folder at files key r number (numbered_in needed)
numbers_by judge child folder at files key r number (Copies copies) is true_then = absurd (none_some number is)
numbers_by judge child folder at files key r number (Numbers m needs) is true_then = subst (λ n. TrueNumbers judge child folder at files key r n needs) (one m number is) true_then

numbers_in : (judge : Judge) (child : Answers) (folder : List ℕ) (at : RecordMap) (files : Map) (key : List ℕ) (r : Record) (number : ℕ) → number_of r ≡ Some number
    → IsTrueRecord judge child folder at files key r → TrueNumbers judge child folder at files key r number (needs_of r)
numbers_in judge child folder at files key r number is true_then = numbers_by judge child folder at files key r number r.needed is true_then.says

-- the needs of a record without a difference have the numbers named
now_numbered : (folder : List ℕ) (at : RecordMap) (files : Map) (needed : Needed) (number : ℕ) → number_in needed ≡ Some number → NeededNow folder at files needed
    → (need : List ℕ) (n : ℕ) → Contains (numbered_in needed) (need, n) → number_if (at need) ≡ Some n
now_numbered folder at files (Copies copies) number is now = absurd (none_some number is)
now_numbered folder at files (Numbers m needs) number is now = now

grounded_now : (at : RecordMap) (key : List ℕ) (n : ℕ) → Grounded at key n → number_if (at key) ≡ Some n
grounded_now at key n (grounded k r m here numbered less needs) = ap number_if here ∙ numbered

pub grounds : GroundsLaw
grounds read judge child folder key c w r number sound same are_grounded numbered =
    let at = record_at read folder w.files in
    let says : TrueNumbers judge child folder at w.files key r number (needs_of r) = numbers_in judge child folder at w.files key r number numbered (sound.each key r same.stands) in
    grounded key r number same.stands numbered says.less
    (λ need n names.
    let (m, is) = are_grounded need (subst (λ (d : Command). Contains d.reads (out_of folder need)) same.asked (says.read need n names)) in
    subst (Grounded at need) (one m n (sym (grounded_now at need m is) ∙ now_numbered folder at w.files r.needed number numbered same.needed need n names)) is)

same_itself : (folders : List (List ℕ)) (m : Map) → SameBelow folders m m
same_itself folders m q inside = refl

reuse_by : (read : RecordParser) (judge : Judge) (child : Answers) (folder key : List ℕ) (c : Command) (w : World) (r : Record) → Sound read judge child folder w.files
    → IsSame read folder key c w r → AreGrounded (record_at read folder w.files) folder c.reads → (needed : Needed) → r.needed ≡ needed
    → TrueBy judge child folder (record_at read folder w.files) w.files key r needed → Backs judge r (out_of folder key) (files_in (out_of folder key) w.files) (reply_in child (command_of r.asked) w)
reuse_by read judge child folder key c w r sound same are_grounded (Copies copies) is says =
    says.gives w (subst (λ (d : Command). Agrees d.target r.inputs w) (sym same.asked) same.inputs) (subst (NeededNow folder (record_at read folder w.files) w.files) is same.needed)
reuse_by read judge child folder key c w r sound same are_grounded (Numbers number needs) is says =
    (says.rests (grounds read judge child folder key c w r number sound same are_grounded (ap number_in is))).gives w
    (subst (λ (d : Command). Agrees d.target r.inputs w) (sym same.asked) same.inputs) (same_itself r.asked.reads w.files)

pub reuse : ReuseLaw
reuse read judge child folder key c w r sound same are_grounded =
    subst (λ (d : Command). Backs judge r (out_of folder key) (files_in (out_of folder key) w.files) (reply_in child d w)) same.asked
    (reuse_by read judge child folder key c w r sound same are_grounded r.needed refl (sound.each key r same.stands).says)

-- grounded units
pub spares : SparesLaw
spares old new key v n stay (grounded k r m here numbered less needs) apart far =
    grounded v r n (stay v apart ∙ here) numbered less
    (λ need i names. spares old new key need i stay (needs need i names)
    (λ e. far (subst (Reaches old v) e (named v r here need i names)))
    (λ more. far (onward v r here need i names key more)))

pub put_grounds : PutGroundsLaw
put_grounds old new key r number stay there numbered ungrounded needs =
    grounded key r number there numbered (λ need n names. (needs need n names).0)
    (λ need n names. let is = (needs need n names).1 in
    spares old new key need n stay is (λ e. ungrounded n (subst (λ k. Grounded old k n) e is)) (λ more. let (i, at) = reached_grounded old need key n is more in ungrounded i at))

-- two worlds in which the inputs have the same values
both_agree : (target : List ℕ) (inputs : List Input) (v w : World) → Agrees target inputs v → Agrees target inputs w → AllByRecursion (λ name. input_in target w name ≡ input_in target v name) (map name_of inputs)
both_agree target [] v w one other = one
both_agree target (i ∷ inputs) v w one other = (other.0 ∙ sym one.0, both_agree target inputs v w one.1 other.1)

module _ (read : RecordParser) (judge : Judge) (child : Answers) (folder key : List ℕ) (w : World) (new : Map) (r : Record) (number : ℕ)
    (honest : IsHonest judge child (command_of r.asked) w) (agree : Agrees r.asked.target r.inputs w) (backs : Backs judge r (out_of folder key) (files_in (out_of folder key) w.files) (reply_in child (command_of r.asked) w))
    (names : NamesNeeds (record_at read folder w.files) folder r number) (put_there : IsPut read folder key r number w.files new) (sound : Sound read judge child folder w.files) where
  abbrev Was : RecordMap
  Was = record_at read folder w.files

  abbrev Now : RecordMap
  Now = record_at read folder new

  abbrev Any : List ℕ → Record → Type 0
  Any k s = k ≡ k

  each : (l : List ℕ) → Became read folder w.files new Any l
  each = put_became read folder w.files new Any key r number put_there.path put_there.key_is put_there.there put_there.numbered put_there.unnamed put_there.only refl

  -- where the new record is grounded: what it names is as it was
  need_apart : (need : List ℕ) (n : ℕ) → Contains (needs_of r) (need, n) → Grounded Now need n → key ≢ need
  need_apart need n named_there is e =
      let same : n ≡ number = one_number (subst (λ k. Grounded Now k n) (sym e) is) in
      let less : n < number = names.less need n named_there in
      absurd (omega arith)
    where
      one_number : Grounded Now key n → n ≡ number
      one_number s = some_same n number (sym (grounded_number Now key n r s put_there.there) ∙ put_there.numbered)
        where
          some_same : (a b : ℕ) → Some a ≡ Some b → a ≡ b
          some_same a b h = cc

  need_stays : (need : List ℕ) (n : ℕ) → Contains (needs_of r) (need, n) → Grounded Now need n → Stays read folder w.files new need
  need_stays need n named_there is =
      let (s, at, numbered) = names.stand need n named_there in
      other_stays read folder w.files new Any key need put_there.path put_there.key_is (its_key read folder w.files need s at) (need_apart need n named_there is) put_there.only

  need_rests : (need : List ℕ) (n : ℕ) → Contains (needs_of r) (need, n) → Grounded Now need n → (s : Record) → Was need ≡ Some s → number_of s ≡ Some n → Rests judge child folder Was w.files need s
  need_rests need n named_there is s at numbered =
      (numbers_in judge child folder Was w.files need s n numbered (sound.each need s at)).rests (was_grounded read folder w.files new Any each need n (need_stays need n named_there is) is)

  need_of : Grounded Now key number → (need : List ℕ) (n : ℕ) → Contains (needs_of r) (need, n) → Grounded Now need n
  need_of is need n named_there = need_grounded Now key number r is put_there.there need n named_there

  reads_reached : Grounded Now key number → (f : List ℕ) → ReadByNeeds Was folder (needs_of r) f → (v : List ℕ) × Reaches Now key v × (f ≡ out_of folder v)
  reads_reached is f (own need n named_there same) = (need, named key r put_there.there need n named_there, same)
  reads_reached is f (beyond need n s named_there at has) =
      let (t, at_t, numbered) = names.stand need n named_there in
      let numbered_s : number_of s ≡ Some n = ap number_of (one_record s t (sym at ∙ at_t)) ∙ numbered in
      let (v, far, same) = ((need_rests need n named_there (need_of is need n named_there) s at numbered_s).reads f).0 has in
      (v, onward key r put_there.there need n named_there v (reaches read folder w.files new Any each need v n (need_stays need n named_there (need_of is need n named_there)) (need_of is need n named_there) far), same)
    where
      one_record : (s t : Record) → Some s ≡ Some t → s ≡ t
      one_record s t h = cc

  reached_read : Grounded Now key number → (f v : List ℕ) → Reaches Now key v → f ≡ out_of folder v → ReadByNeeds Was folder (needs_of r) f
  reached_read is f v (named k s here need n has) same = own need n (subst (λ (t : Record). Contains (needs_of t) (need, n)) (one_record s r (sym here ∙ put_there.there)) has) same
    where
      one_record : (s t : Record) → Some s ≡ Some t → s ≡ t
      one_record s t h = cc
  reached_read is f v (onward k s here need n has further more) same =
      let named_there : Contains (needs_of r) (need, n) = subst (λ (t : Record). Contains (needs_of t) (need, n)) (one_record s r (sym here ∙ put_there.there)) has in
      let grounded_need : Grounded Now need n = need_of is need n named_there in
      let (t, at_t, numbered) = names.stand need n named_there in
      beyond need n t named_there at_t (((need_rests need n named_there grounded_need t at_t numbered).reads f).1 (v, reached read folder w.files new Any each need v n (need_stays need n named_there grounded_need) grounded_need more, same))
    where
      one_record : (s t : Record) → Some s ≡ Some t → s ≡ t
      one_record s t h = cc

  -- below what it reads stands what stood there
  below_still : Grounded Now key number → SameBelow r.asked.reads w.files new
  below_still is q below =
      let (f, has, inside) = any_at (λ x. is_below x q) r.asked.reads below in
      let (v, far, same) = reads_reached is f ((names.reads f).0 has) in
      let (n, is_v) = reached_grounded Now key v number is far in
      let (s, here) = standing v n is_v in
      let apart = out_record_apart folder v key put_there.path (its_key read folder new v s here) put_there.key_is in
      put_there.only q (share_no_path (out_of folder v) (record_path folder key) q apart.first apart.second apart.not_below_first apart.not_below_second
      (at_below (out_of folder v) q (subst (λ x. is_below x q ≡ true) same inside)))
    where
      standing : (v : List ℕ) (n : ℕ) → Grounded Now v n → (s : Record) × (Now v ≡ Some s)
      standing v n (grounded k s m here numbered less needs) = (s, here)

  made_still : files_in (out_of folder key) new ≡ files_in (out_of folder key) w.files
  made_still = folder_still (out_of folder key) (record_path folder key) w.files new (out_record_apart folder key key put_there.path put_there.key_is put_there.key_is) put_there.only

  gives_again : Grounded Now key number → (x : World) → Agrees r.asked.target r.inputs x → SameBelow r.asked.reads new x.files → Backs judge r (out_of folder key) (files_in (out_of folder key) new) (reply_in child (command_of r.asked) x)
  gives_again is x agree_x below =
      let again : reply_in child (command_of r.asked) x ≡ reply_in child (command_of r.asked) w =
      honest x (map name_of r.inputs) backs.good (both_agree r.asked.target r.inputs w x agree agree_x) (λ q inside. below q inside ∙ below_still is q inside) in
      subst (λ m. Backs judge r (out_of folder key) m (reply_in child (command_of r.asked) x)) (sym made_still)
      (subst (λ y. Backs judge r (out_of folder key) (files_in (out_of folder key) w.files) y) (sym again) backs)

  true_as : (needed : Needed) → r.needed ≡ needed → TrueBy judge child folder Now new key r needed
  true_as (Copies copies) is = absurd (none_some number (sym (ap number_in is) ∙ put_there.numbered))
  true_as (Numbers m needs) is =
      let same : number ≡ m = some_same number m (sym put_there.numbered ∙ ap number_in is) in
      subst (λ n. TrueNumbers judge child folder Now new key r n needs) same
      (subst (λ (d : Needed). TrueNumbers judge child folder Now new key r number (numbered_in d)) is record {
        read = λ need n has. (names.reads (out_of folder need)).1 (own need n has refl);
        less = names.less;
        rests = λ s. record {
          reads = λ f. (λ has. reads_reached s f ((names.reads f).0 has), λ h. (names.reads f).1 (reached_read s f h.0 h.1 h.2));
          gives = gives_again s;
        };
      })
    where
      some_same : (a b : ℕ) → Some a ≡ Some b → a ≡ b
      some_same a b h = cc

  renewed_sound : Sound read judge child folder new
  renewed_sound = put read judge child folder w.files new key r number put_there.path put_there.key_is put_there.there put_there.numbered put_there.unnamed put_there.only record { says = true_as r.needed refl } sound

pub renew : RenewLaw
renew read judge child folder key w new r number honest agree backs names put_there sound = renewed_sound read judge child folder key w new r number honest agree backs names put_there sound
