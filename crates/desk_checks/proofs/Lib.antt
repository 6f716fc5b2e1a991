pub mod SiteFacts
