-- What a profile or an override sets, and the settings of a package. Both are lists in the order of
-- the keys.
use Rattle.std.specs.Prelude.{Bool, true, false, List, Option, None, get_or, map}
use Rattle.pb_profile_keys.specs.Setting.{same}
use Rattle.pb_profile_keys.specs.Table.{keys, index}
use Rattle.pb_profile_keys.specs.declared.key.ProfileKey.{ProfileKey}
use Rattle.pb_profile_keys.specs.declared.key.ProfileKey.TheVariants as key
use Rattle.pb_profile_keys.specs.declared.setting.Setting.{Setting}
use Rattle.pb_profile_keys.specs.declared.setting.Setting.TheVariants as setting
use Rattle.pb_profile_keys.specs.declared.setting.Word.{Word}
use Rattle.pb_profile_keys.specs.declared.setting.Word.TheVariants as word

-- for each key, in order, the value that a profile or an override sets, if there is such a value
abbrev pub Said : Type 0
Said = List (Option Setting)

-- the value that is set for a key, if there is one
abbrev pub says : Said → ProfileKey → Option Setting
says values k = get_or values (index k) None

-- a list in which no key is set
abbrev pub no_keys : Said
no_keys = map (λ (k : ProfileKey). None) keys

-- the setting of a key in a list of settings
abbrev pub setting_at : List Setting → ProfileKey → Setting
setting_at settings k = get_or settings (index k) (setting.Truth false)

-- the word of a setting, or `0` if the setting is not a word
abbrev pub word_in : Setting → Word
word_in (setting.Word w) = w
word_in _ = word.Zero

abbrev pub opt_level : List Setting → Word
opt_level settings = word_in (setting_at settings key.OptLevel)

abbrev pub debug : List Setting → Word
debug settings = word_in (setting_at settings key.Debug)

abbrev pub debug_assertions : List Setting → Bool
debug_assertions settings = same (setting_at settings key.DebugAssertions) (setting.Truth true)

abbrev pub overflow_checks : List Setting → Bool
overflow_checks settings = same (setting_at settings key.OverflowChecks) (setting.Truth true)
